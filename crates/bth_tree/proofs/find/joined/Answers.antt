use Rattle.std.proofs.Common.{◌∙◌, ℕ, List, Option, sym, ap, length-append, option_copied, arith}
use Rattle.bth_tree.specs.Find.{SumsPart, either}
use Rattle.bth_tree.specs.Records.{entry_of}
use Rattle.bth_tree.proofs.FindLaws.{end-append, entry-append, last-append}
use Rattle.bth_tree.proofs.find.joined.Goals as goal

pub returns-in-Some : goal.returns-in-Some
returns-in-Some c = λ key xs ys a b.
    let s : SumsPart key xs c.in-Some.sum = rw c.in-Some.is at a in
    record {
      some = omega (arith, length-append xs ys, s.some);
      first = s.first ∙ sym (end-append xs ys s.some);
      last = b.last ∙ sym (last-append xs ys b.some);
      entry = c.either.ensures ∙ ap (λ (o : Option (List ℕ)). either o (option_copied c.args.more.entry)) s.entry ∙ ap (either (entry_of key xs)) b.entry ∙ sym (entry-append key xs ys);
    }
