use Rattle.std.proofs.Common.{List, ℕ, ap, arith, length, sym}
use Rattle.pmb_beagle.specs.Bytes.{bytes_of}
use Rattle.pmb_beagle.specs.Views.{counted}
use Rattle.pmb_beagle.proofs.WordCount.{few_words}
use Rattle.pmb_beagle.proofs.transaction.count_bytes.Goals as goal

pub loop-word-init : goal.loop-word-init
loop-word-init c =
    let few = few_words c.args.text.now in
    let left = c.of-left.ensures.words in record {
      count = ap (λ (w : List (List ℕ)). counted 0 (bytes_of w)) (sym left);
      room = omega (arith, few, ap (λ (w : List (List ℕ)). length w) left);
    }
