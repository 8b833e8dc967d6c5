-- What is asked for stands there, and what is put as it is changes nothing.
use Rattle.std.proofs.Common.{◌≡◌, ℕ, ◌%◌, ◌==◌, Option, None, Some, IfOk, arith, refl, ◌⊎◌, inl, inr}
use Rattle.std.proofs.lemmas.Bool.{cases_Bool}
use Rattle.mail_objects.specs.declared.object.Object.{Object}
use Rattle.mail_objects.specs.declared.object.Object.TheVariants.{Context, Table, Message, Bare}
use Rattle.mail_tree.specs.Places.{ROOT}
use Rattle.mail_tree.specs.Tree.{Tree}
use Rattle.mail_tree.specs.Changing.{Changed, ◌>>=◌, as_context, as_table, contents, context_at, hierarchy, known, now_at, table_at, with_object}
use Rattle.mail_tree.specs.Settling.{above_as_is, context_as_is, table_as_is, touched}
use Rattle.mail_tree.proofs.AfterTree.{same_now}
use Rattle.mail_tree.proofs.KindsOfPuts.{beside_kind}
use Rattle.mail_laws.proofs.Keeping.{if_any, if_then}

-- what stands there
known_context : (o : Option Object) → IfOk (known (as_context o)) (λ c. o ≡ Some (Context c))
known_context None = tt
known_context (Some (Context c)) = refl
known_context (Some (Table t)) = tt
known_context (Some (Bare parent)) = tt
known_context (Some (Message m)) = tt

known_table : (o : Option Object) → IfOk (known (as_table o)) (λ t. o ≡ Some (Table t))
known_table None = tt
known_table (Some (Context c)) = tt
known_table (Some (Table t)) = refl
known_table (Some (Bare parent)) = tt
known_table (Some (Message m)) = tt

pub if_context : (T : Tree) (D : Changed) (q : ℕ) → IfOk (context_at T D q) (λ c. now_at T D q ≡ Some (Context c))
if_context T D q = known_context (now_at T D q)

pub if_table : (T : Tree) (D : Changed) (q : ℕ) → IfOk (table_at T D q) (λ t. now_at T D q ≡ Some (Table t))
if_table T D q = known_table (now_at T D q)

-- where a table is put as it is, all stands as it stood
pub table_same : (T : Tree) (q : ℕ) (D : Changed) → IfOk (table_as_is T q D) (λ D'. now_at T D' ≡ now_at T D)
unfolding table_as_is
table_same T q D = if_then (λ t. now_at T D q ≡ Some (Table t)) (λ D'. now_at T D' ≡ now_at T D) (table_at T D q) _ (if_table T D q) (λ t at. same_now T D q (Table t) at)

-- what holds of changes still where an object that stands there is put, of a folder or a table
abbrev pub Stays : Tree → (Changed → Type 0) → Type 0
Stays T P = (D : Changed) (q : ℕ) (o : Object) → (q % 32 ≡ 2) ⊎ ((q % 32 ≡ 13) ⊎ (q % 32 ≡ 14)) → now_at T D q ≡ Some o → P D → P (with_object q (Some o) D)

module _ (T : Tree) (P : Changed → Type 0) (stays : Stays T P) where
  pub table_stays : (q : ℕ) (D : Changed) → (q % 32 ≡ 13) ⊎ (q % 32 ≡ 14) → P D → IfOk (table_as_is T q D) P
  unfolding table_as_is
  table_stays q D kind k = if_then (λ t. now_at T D q ≡ Some (Table t)) P (table_at T D q) _ (if_table T D q) (λ t at. stays D q (Table t) (inr kind) at k)

  context_stays : (f : ℕ) (D : Changed) → f % 32 ≡ 2 → P D → IfOk (context_as_is T f D) P
  unfolding context_as_is
  context_stays f D two k = if_then (λ c. now_at T D f ≡ Some (Context c)) P (context_at T D f) _ (if_context T D f) (λ c at. stays D f (Context c) (inl two) at k)

  above_stays : (f : ℕ) (D : Changed) → P D → IfOk (above_as_is T f D) P
  unfolding above_as_is
  above_stays f D k = elim (cases_Bool (f == ROOT)) [
    | inl b ↦ rw b (table_stays (hierarchy ROOT) D (inl (beside_kind ROOT 13 (omega arith))) k)
    | inr b ↦ rw b (if_then (λ c. Unit {0}) P (context_at T D f) _ (if_any (context_at T D f)) (λ c u. table_stays (hierarchy c.parent) D (inl (beside_kind c.parent 13 (omega arith))) k))
  ]

  -- a folder is put as it is
  pub touched_stays : (f : ℕ) (D : Changed) → f % 32 ≡ 2 → P D → IfOk (touched T f D) P
  unfolding touched
  touched_stays f D two k =
      if_then P P (context_as_is T f D >>= table_as_is T (contents f)) (above_as_is T f)
      (if_then P P (context_as_is T f D) (table_as_is T (contents f)) (context_stays f D two k) (λ D' k'. table_stays (contents f) D' (inr (beside_kind f 14 (omega arith))) k'))
      (λ D' k'. above_stays f D' k')
