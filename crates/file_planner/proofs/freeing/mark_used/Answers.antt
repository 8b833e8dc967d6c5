use Rattle.std.proofs.Common.{◌≡◌, ◌∙◌, ◌<◌, ◌+◌, ◌/◌, ◌%◌, List, Bool, false, length, get_or, sym, ap, arith}
use Rattle.alloc_map.specs.Slots.{is_used}
use Rattle.file_planner.proofs.FreeingLaws.{map-bit, mark-behind, mark-more, mark-none}
use Rattle.file_planner.proofs.freeing.mark_used.Goals as goal
use Rattle.file_planner.proofs.freeing.mark_used.Goals.{then-is_set, else-is_set}

pub loop-k-preserved : goal.loop-k-preserved
loop-k-preserved c =
    let old = c.args.marks.now in
    let marks = c.loop-k.marks in
    let used = c.args.slots.now in
    let from = c.args.from in
    let k = c.loop-k.k in
    let to = c.loop-k.invariant.passed in
    let ahead = c.loop-k.invariant.ahead in
    let bit : c.is_set.result ≡ is_used used (from + k) = c.is_set.ensures ∙ map-bit used (from / 3968) c.map_page-page.result (from % 3968 + k) (from + k) c.map_page-page.ensures.map (omega arith) (omega arith) in
    elim c.if-is_set.branch [
      | then-is_set w ↦
          let within : k < length marks = omega arith in
          record {
            passed = λ j lt. ap (λ (l : List Bool). get_or l j false) w.marks-is ∙ mark-more old marks used from k to within (sym bit ∙ w.if-is_set.true) j lt;
            ahead = λ j le. ap (λ (l : List Bool). get_or l j false) w.marks-is ∙ mark-behind old marks k ahead j le;
          }
      | else-is_set w ↦ record {
        passed = λ j lt. ap (λ (l : List Bool). get_or l j false) w.marks-is ∙ mark-none old marks used from k to ahead (sym bit ∙ w.if-is_set.false) j lt;
        ahead = λ j le. ap (λ (l : List Bool). get_or l j false) w.marks-is ∙ ahead j (omega (arith, le));
      }
    ]
