-- Mending a search, planned: what it comes to, and why it stops.
use Rattle.std.proofs.Common.{◌≡◌, ◌≤◌, ℕ, Bool, true, Option, None, Some, Result, Ok, Err, arith, refl, subst}
use Rattle.std.specs.Result.{IsErrAnd}
use Rattle.pst_base.specs.declared.ids.Nid.{Nid}
use Rattle.pst_outside.specs.Calls.{NeverFall, Rose}
use Rattle.pst_outside.specs.World.{World}
use Rattle.command_text.specs.declared.reply.CommandRefusal.TheVariants as refusals
use Rattle.node_port.specs.Stops.{Room}
use Rattle.mail_tree.specs.Changing.{Answer}
use Rattle.mail_tree.specs.Whole.{Fine}
use Rattle.store_session.specs.mail_draft.Answers as draft
use Rattle.store_session.specs.mail_draft.Answers.{Says}
use Rattle.store_session.specs.mail_draft.declared.stop.Stop.{Stop}
use Rattle.store_session.specs.mail_draft.declared.stop.Stop.TheVariants as stops
use Rattle.store_session.specs.mail_store.Planning.{IsHindered, StaysUnwritten}
use Rattle.store_session.proofs.mail_store_laws.StoreLaws.{of_answer}
use Rattle.mail_searches.specs.Searching.{Searching, is_own}
use Rattle.search_mending.specs.Laws.{IsMendable, Mends}
use Rattle.search_mending.specs.Mending.{Mending, mended_search}
use Rattle.search_mending.proofs.MendLaws.{mends_in_order}
use Rattle.search_mends.specs.Mendings.{mending_of}
use Rattle.search_mends.specs.Stops.{IsCaused, StopsMending, UnlessFault, of_hindrance, of_refusal}
use Rattle.search_mends.specs.declared.coming.SearchMending.{SearchMending}
use Rattle.search_mends.specs.declared.stop.MendStop.{MendStop}
use Rattle.search_mends.specs.declared.stop.MendStop.TheVariants.{Rows, Full, Ids, Fault, Changed, Memory}
use Rattle.search_mends.proofs.MendingLaws.{stays_unwritten}
use Rattle.search_mends.proofs.Steps.{told}

-- ---- stops

-- it is so after each stop
pub unless_fault : {P : Type 0} (stop : MendStop) → P → UnlessFault P stop
unless_fault (Rows n) p = p
unless_fault (Full free need) p = p
unless_fault Ids p = p
unless_fault Fault p = tt
unless_fault (Changed ib stored computed) p = p
unless_fault Memory p = p

-- a fault that rose since a later moment rose since an earlier one
pub caused_later : (disk : Bool) (a b c : ℕ) (stop : MendStop) → a ≤ b → IsCaused disk b c stop → IsCaused disk a c stop
caused_later disk a b c (Rows n) le is = tt
caused_later disk a b c (Full free need) le is = tt
caused_later disk a b c Ids le is = tt
caused_later disk a b c Fault le is = (let rose : Rose b c = is.0 in omega arith, is.1)
caused_later disk a b c (Changed ib stored computed) le is = tt
caused_later disk a b c Memory le is = tt

pub caused_refusal : (disk : Bool) (a b : ℕ) (n : Nid) (stop : Stop) → draft.IsCaused disk a b stop → IsCaused disk a b (of_refusal n stop)
caused_refusal disk a b n (stops.Refused refusal) is = tt
caused_refusal disk a b n stops.Fault is = is
caused_refusal disk a b n (stops.Changed ib stored computed) is = tt
caused_refusal disk a b n stops.Memory is = tt

pub caused_hindrance : (disk : Bool) (a b c : ℕ) (n : Nid) (stop : Stop) → a ≤ b → draft.IsCaused disk b c stop → IsCaused disk a c (of_hindrance n stop)
caused_hindrance disk a b c n (stops.Refused (refusals.Full free need)) le is = tt
caused_hindrance disk a b c n (stops.Refused refusals.Ids) le is = tt
caused_hindrance disk a b c n (stops.Refused other) le is = tt
caused_hindrance disk a b c n stops.Fault le is = (let rose : Rose b c = is.0 in omega arith, is.1)
caused_hindrance disk a b c n (stops.Changed ib stored computed) le is = tt
caused_hindrance disk a b c n stops.Memory le is = tt

-- what is to be written is hindered
pub hinders_so : (room : Room) (X : Searching) (f : ℕ) (n : Nid) (m : Mending) (stop : Stop) → mended_search X f ≡ Ok m → IsHindered room m.coming.outcome.changed stop → StopsMending room X f (of_hindrance n stop)
hinders_so room X f n m (stops.Refused (refusals.Full free need)) e is = (m, e, is)
hinders_so room X f n m (stops.Refused refusals.Ids) e is = (m, e, is)
hinders_so room X f n m (stops.Refused other) e is = absurd is
hinders_so room X f n m stops.Fault e is = tt
hinders_so room X f n m (stops.Changed ib stored computed) e is = absurd is
hinders_so room X f n m stops.Memory e is = tt

module _ (tidy : Bool) (X : Searching) (f : ℕ) (order : IsMendable tidy X) (own : is_own X.own f ≡ true) where
  fine : Fine (mended_search X f) (Mends tidy X f)
  fine = mends_in_order tidy X f order own

  -- what mending it comes to can't be told
  by-answer : (room : Room) (n : Nid) → n.bits ≡ f → (answer : Answer Mending) → mended_search X f ≡ answer → Fine answer (Mends tidy X f) → (stop : Stop)
      → Says {B = SearchMending} (mending_of X) answer (Err stop) → StopsMending room X f (of_refusal n stop)
  by-answer room n same (Ok m) e is (stops.Refused given) says = absurd says
  by-answer room n same (Ok m) e is stops.Fault says = tt
  by-answer room n same (Ok m) e is (stops.Changed ib stored computed) says = absurd says
  by-answer room n same (Ok m) e is stops.Memory says = tt
  by-answer room n same (Err None) e is stop says = absurd is
  by-answer room n same (Err (Some refusal)) e is (stops.Refused given) says = (same, (refusal, e))
  by-answer room n same (Err (Some refusal)) e is stops.Fault says = tt
  by-answer room n same (Err (Some refusal)) e is (stops.Changed ib stored computed) says = absurd says
  by-answer room n same (Err (Some refusal)) e is stops.Memory says = tt

  pub refused_stops : (room : Room) (n : Nid) (stop : Stop) → n.bits ≡ f → Says {B = SearchMending} (mending_of X) (mended_search X f) (Err stop) → StopsMending room X f (of_refusal n stop)
  refused_stops room n stop same says = by-answer room n same (mended_search X f) refl fine stop says

  -- it is told
  pub mends_to : (m : SearchMending) → Says (mending_of X) (mended_search X f) (Ok m) → mended_search X f ≡ Ok (mending_of X m)
  mends_to m says = told (Mends tidy X f) (mending_of X) (mended_search X f) m fine says

  -- and then it leaves the tree where it writes no node
  pub stays_quiet : (m : Mending) → mended_search X f ≡ Ok m → StaysUnwritten X.tree m.coming.outcome
  stays_quiet m e = of_answer (λ (m : Mending). StaysUnwritten X.tree m.coming.outcome) (mended_search X f) m (stays_unwritten X f) e

  -- and mends the search
  pub mends_so : (m : Mending) → mended_search X f ≡ Ok m → Mends tidy X f m
  mends_so m e = subst (λ a. Fine a (Mends tidy X f)) e fine
