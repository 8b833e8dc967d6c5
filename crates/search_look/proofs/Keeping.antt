-- Stops, from one call to the next.
use Rattle.std.proofs.Common.{◌≡◌, ℕ, Bool, List, Result, Ok, Err, IfErr, arith, sym, subst}
use Rattle.std.specs.Result.{IsErrAnd}
use Rattle.pst_outside.specs.World.{World}
use Rattle.node_port.specs.Nodes.{Nodes}
use Rattle.node_port.specs.Stops.{Room}
use Rattle.node_port.specs.declared.keeper.KeepStop.TheVariants as keep
use Rattle.tree_look.specs.Walk.{Looks}
use Rattle.search_look.specs.Looking.{Finds, IsKept, IsNever, Refuses}
use Rattle.search_look.specs.declared.stops.SearchRefusal.{SearchRefusal}
use Rattle.search_look.specs.declared.stops.SearchStop.{SearchStop}
use Rattle.search_look.specs.declared.stops.SearchStop.TheVariants.{Refused, Kept}

-- a stop of a call after others
pub kept_later : {h h' : Nodes → Type 0} {l l' : List ℕ} {r r' : Room} {a b : World} (disk : Bool) (after : ℕ) (e : SearchStop) → Looks h h' l l' r r' a b → IsKept disk b.disk_faults after h' e → IsKept disk a.disk_faults after h e
kept_later disk after (Refused refusal) looks kept = tt
kept_later disk after (Kept keep.Fault) looks kept = (omega (arith, kept.0, looks.world.counts.disk_faults), kept.1)
kept_later disk after (Kept (keep.Changed ib stored computed)) looks kept = λ N held. kept N (looks.stays N held)
kept_later disk after (Kept keep.Memory) looks kept = tt

-- a stop that is passed on
pub kept_on : {A : Type 0} (disk : Bool) (before after : ℕ) (held : Nodes → Type 0) (e : SearchStop) (result : Result A SearchStop) → IsErrAnd result (λ x. x ≡ e) → IsKept disk before after held e → IfErr result (IsKept disk before after held)
kept_on disk before after held e (Ok y) h kept = tt
kept_on disk before after held e (Err x) h kept = subst (IsKept disk before after held) (sym h) kept

pub finds_on : {A : Type 0} (P : A → Type 0) (Q : SearchRefusal → Type 0) (e : SearchStop) (result : Result A SearchStop) → IsErrAnd result (λ x. x ≡ e) → Refuses Q e → Finds P Q result
finds_on P Q e (Ok y) h refuses = absurd h
finds_on P Q e (Err x) h refuses = subst (Refuses Q) (sym h) refuses

-- what is wrong, in other words
pub refuses_as : (P Q : SearchRefusal → Type 0) (e : SearchStop) → ((refusal : SearchRefusal) → P refusal → Q refusal) → Refuses P e → Refuses Q e
refuses_as P Q (Refused refusal) so wrong = so refusal wrong
refuses_as P Q (Kept stop) so wrong = tt

-- a call that refuses nothing stopped
pub never_on : {A : Type 0} (P : A → Type 0) (Q : SearchRefusal → Type 0) (e : SearchStop) (result : Result A SearchStop) → IsErrAnd result (λ x. x ≡ e) → Refuses IsNever e → Finds P Q result
never_on P Q e result h never = finds_on P Q e result h (refuses_as IsNever Q e (λ refusal no. absurd no) never)
