use borrow.Author.Rules.{rules}
use Rattle.looks.proofs.Counts.{others_made}
use Rattle.looks.proofs.count.choices_of.Goals as goal

pub returns : goal.returns
returns c =
    others_made c.map.result (record { size = c.told-x; fits = c.fits-x }) (λ j l. search rules) c.times.ensures c.times-2.ensures c.times-3.ensures c.times-4.ensures
