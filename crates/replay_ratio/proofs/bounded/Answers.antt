-- A fraction within the bounds is kept, and 0 over 1 is within them. Assumes nothing.
use borrow.Author.Tests.{leb-true}
use lib.Dec.{leb}
use Rattle.base.proofs.Laws.Tests.{and_l, and_r}
use Rattle.ratio.specs.Inner.Fraction.{MOST_NUM, MOST_DEN}
use Rattle.replay_ratio.proofs.bounded.Goals as goal

pub returns-then-f : goal.returns-then-f
returns-then-f c =
    let f = c.args.f in
    record {
      num = leb-true f.num MOST_NUM (and_l (leb f.num MOST_NUM) (leb f.den MOST_DEN) c.if-f.true);
      den = leb-true f.den MOST_DEN
          (and_r (leb f.num MOST_NUM) (leb f.den MOST_DEN) c.if-f.true);
    }
