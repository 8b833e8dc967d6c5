use Rattle.std.proofs.Common.{rules, arith, ℕ, ◌≡◌, ◌+◌, ◌-◌, ◌≤◌, ◌∙◌, ◌++◌, length, take, drop, ap, append_assoc, length-drop}
use Rattle.std.proofs.lemmas.List.{length-take}
use Rattle.pst_outside.proofs.Bytes.{more_said}
use Rattle.pst_outside.proofs.Moments.{says_on, same_disk, still_says}
use Rattle.pst_outside.proofs.helpers.say_all.Goals as goal

pub returns-in_err-done-clause-any_moment : goal.returns-in_err-done-clause-any_moment
returns-in_err-done-clause-any_moment g c = says_on c.loop-done.invariant.run c.say.ensures.content c.say.ensures.crash c.say.ensures.time c.loop-done.done (omega arith) (search rules)

pub loop-done-preserved : goal.loop-done-preserved
loop-done-preserved g c =
    let old = g.W.Outside.view c.args.w.now in
    let new = g.W.Outside.view c.say.new.self in
    let text = c.args.text.now in
    let done = c.loop-done.done in
    let n = c.in_ok-done.field-0 in
    let so_far = c.loop-done.invariant in
    let within : done + n ≤ length text = omega (arith, c.in_ok-done.ensures.within, length-take {A = ℕ}, length-drop {A = ℕ}) in
    let said : new.tells → new.here.said ≡ old.here.said ++ take (done + n) text = λ told.
    c.in_ok-done.ensures.said told
    ∙ ap (λ l. l ++ take n (take (length text - done) (drop done text))) (so_far.said (c.say.ensures.content.told told))
    ∙ append_assoc old.here.said (take done text) (take n (take (length text - done) (drop done text)))
    ∙ ap (λ l. old.here.said ++ l) (more_said text done n within) in
    record {
      within = within;
      counts = search rules;
      content = still_says so_far.content c.say.ensures.content;
      said = said;
      crash = λ i left.
          let mid = c.say.ensures.crash i left in
          let first = so_far.crash mid.0 mid.1 in
          (first.0, first.1, same_disk first.2 mid.2);
      run = says_on so_far.run c.say.ensures.content c.say.ensures.crash c.say.ensures.time (done + n) within said;
    }
