-- What was planned, where there are searches.
use Rattle.std.proofs.Common.{◌≡◌, None, Some, Ok, Err, ap, subst, sym}
use Rattle.mail_tree.specs.Changing.{Answer}
use Rattle.mail_draft.specs.Answers.{Says}
use Rattle.mail_draft.specs.declared.stop.Stop.{Stop}
use Rattle.mail_store.specs.Planning.{IsHindered}
use Rattle.mail_store.specs.Space.{HasRoom}
use Rattle.node_port.specs.Stops.{Room}
use Rattle.mail_searches.specs.Criteria.{Coming}
use Rattle.search_store.specs.Planning.{PlansComing}

-- a plan of what a command comes to is one of what it is to come to
pub plans_coming : {A P : Type 0} (view : A → Coming) (room : Room) (plans : Coming → P → Type 0) (answer : Answer Coming) (v : A) (planned : P)
    → Says view answer (Ok v) → (answer ≡ Ok (view v) → plans (view v) planned × HasRoom room (view v).outcome.changed) → PlansComing room plans answer (Ok planned)
plans_coming view room plans (Ok o) v planned said made = subst (λ x. plans x planned × HasRoom room x.outcome.changed) said (made (ap Ok (sym said)))
plans_coming view room plans (Err None) v planned said made = tt
plans_coming view room plans (Err (Some refusal)) v planned said made = absurd said

-- so is what hinders it
pub hinders_coming : {A P : Type 0} (view : A → Coming) (room : Room) (plans : Coming → P → Type 0) (answer : Answer Coming) (v : A) (stop : Stop)
    → Says view answer (Ok v) → (answer ≡ Ok (view v) → IsHindered room (view v).outcome.changed stop) → PlansComing {P = P} room plans answer (Err stop)
hinders_coming view room plans (Ok o) v stop said made = subst (λ x. IsHindered room x.outcome.changed stop) said (made (ap Ok (sym said)))
hinders_coming view room plans (Err None) v stop said made = tt
hinders_coming view room plans (Err (Some refusal)) v stop said made = absurd said
