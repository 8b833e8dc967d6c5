use Rattle.std.proofs.Common.{◌-◌, ◌^◌, ◌∙◌, ap}
use Rattle.std.specs.Prelude.{min}
use Rattle.store_filling.specs.Counts.{messages_in, sizes_in}
use Rattle.store_filling.proofs.CountLaws.{stores_on, uncounted_folder, uncounted_search}
use Rattle.store_filling.proofs.counting.count_filled.Goals as goal

pub returns-in-Err-clause-answer : goal.returns-in-Err-clause-answer
returns-in-Err-clause-answer g c = λ tidy X s order. uncounted_search X c.args.made c.in-Err.stop (c.in-Err.ensures.answer tidy X s order)

pub returns-in-Ok-lines_of-clause-answer : goal.returns-in-Ok-lines_of-clause-answer
returns-in-Ok-lines_of-clause-answer g c = λ tidy X s order.
    let first = c.in-Ok.ensures.answer tidy X s order in
    let second = c.in-Ok-lines_of.ensures.answer tidy X (stores_on c.args.known.now c.args.searches.now X c.in-Ok.ensures.looks s) order in
    record {
      of_search = first.0;
      listed_so = first.1;
      listed = c.messages_in-listed.ensures ∙ ap messages_in (c.as_slice.ensures.value ∙ first.2);
      of_folder = second.0;
      sized_so = second.1;
      bytes = c.sizes_in.ensures ∙ ap (λ ls. min (sizes_in ls) (2 ^ 64 - 1)) (c.as_slice-in-Ok-lines_of.ensures.value ∙ second.2);
    }

pub returns-in-Err-lines_of-clause-answer : goal.returns-in-Err-lines_of-clause-answer
returns-in-Err-lines_of-clause-answer g c = λ tidy X s order.
    uncounted_folder X c.args.made c.in-Err-lines_of.stop (c.in-Err-lines_of.ensures.answer tidy X (stores_on c.args.known.now c.args.searches.now X c.in-Ok.ensures.looks s) order)
