use Prim.Native.Nat.{◌<◌}
use native.Mathlib.Omega.{arith}
use Rattle.engine.proofs.Worklists.{eight_sheets}
use Rattle.engine.proofs.layout.Sheets.sheet.Goals as goal

pub offset_bounds-self-s : goal.offset_bounds-self-s
offset_bounds-self-s c = let few : c.args.s < 8 = eight_sheets _ c.args.self.now.laid.accepted _ c.requires in omega arith

pub bounds-self-s : goal.bounds-self-s
bounds-self-s c = eight_sheets _ c.args.self.now.laid.accepted _ c.requires

pub offset_bounds-self-s-2 : goal.offset_bounds-self-s-2
offset_bounds-self-s-2 c = let few : c.args.s < 8 = eight_sheets _ c.args.self.now.laid.accepted _ c.requires in omega arith

pub bounds-self-s-2 : goal.bounds-self-s-2
bounds-self-s-2 c = eight_sheets _ c.args.self.now.laid.accepted _ c.requires
