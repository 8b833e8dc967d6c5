use Rattle.std.proofs.Common.{◌≡◌, ◌∷◌, ◌++◌, [], ℕ, Some, ap, sym, subst, ◌∙◌}
use Rattle.content_plan.specs.Plan.{PlansContents}
use Rattle.content_plan.specs.Told.{content_of}
use Rattle.content_plan.proofs.PlanLaws.{Edits, put-plans}
use Rattle.content_plan.proofs.node.placed.Goals as goal

pub returns-clause-plans : goal.returns-clause-plans
returns-clause-plans c = λ find eof es rise are there exact.
    let nid = c.args.nid in
    let put = c.in_ok-put.put in
    let edits : c.push.new.self.items ≡ (nid.bits, Some put.entry) ∷ [] =
    c.in_ok-push.ensures.items ∙ ap (λ (l : Edits). l ++ (c.from.result, Some put.entry) ∷ []) c.new-edits.ensures.items ∙ ap (λ (n : ℕ). (n, Some put.entry) ∷ []) c.from.ensures in
    let P : Edits → Type 0 = λ l. PlansContents find eof c.args.limit es ((nid, Some c.args.node.now) ∷ []) l put.blocks.items c.args.keys.items put.keys.items in
    subst P (sym edits) (put-plans find eof c.args.limit es c.args.next nid c.args.node.now (content_of c.args.old.now) put.entry put.blocks.items c.args.keys.items put.keys.items rise are there exact c.requires.limit c.in_ok-put.ensures.puts)
