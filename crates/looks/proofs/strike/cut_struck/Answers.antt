use Rattle.looks.proofs.Looks.{inside_known}
use Rattle.looks.proofs.strike.cut_struck.Goals as goal

pub returns : goal.returns
returns c = let p = c.requires in
    (inside_known c.args.sheet.now.at p.0 c.wanted-x.ensures p.1 c.cut_inside.ensures, c.cut_inside.ensures.only)
