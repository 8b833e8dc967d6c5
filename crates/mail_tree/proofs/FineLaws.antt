-- Answers that are fine, one step after another.
use Rattle.std.proofs.Common.{◌≡◌, ◌⊎◌, inl, inr, Bool, true, false, Option, None, Some, Ok, Err, refl, if◌then◌else◌, ℕ}
use Rattle.command_text.specs.declared.reply.CommandRefusal.{CommandRefusal}
use Rattle.mapi_values.specs.Messages.{Mes}
use Rattle.mail_objects.specs.Forms.{Ctx, Tbl}
use Rattle.mail_objects.specs.declared.object.Object.TheVariants.{Context, Table, Message}
use Rattle.mail_tree.specs.Tree.{Tree}
use Rattle.mail_tree.specs.Changing.{Answer, Changed, ◌>>=◌, context_at, found, message_at, now_at, refused_if, table_at}
use Rattle.mail_tree.specs.Whole.{Fine}

-- a step, and what follows it
pub fine_then : {A B : Type 0} (P : A → Type 0) (Q : B → Type 0) (a : Answer A) (f : A → Answer B) → Fine a P → ((x : A) → P x → Fine (f x) Q) → Fine (a >>= f) Q
fine_then P Q (Ok x) f first next = next x first
fine_then P Q (Err None) f first next = first
fine_then P Q (Err (Some refusal)) f first next = tt

-- a weaker fact
pub fine_weaker : {A : Type 0} (P Q : A → Type 0) (a : Answer A) → Fine a P → ((x : A) → P x → Q x) → Fine a Q
fine_weaker P Q (Ok x) first next = next x first
fine_weaker P Q (Err None) first next = first
fine_weaker P Q (Err (Some refusal)) first next = tt

pub after_test : {B : Type 0} (Q : B → Type 0) (b : Bool) (refusal : CommandRefusal) (f : Unit {0} → Answer B) → (b ≡ false → Fine (f tt) Q) → Fine (refused_if b refusal >>= f) Q
after_test Q true refusal f next = tt
after_test Q false refusal f next = next refl

pub after_found : {A B : Type 0} (Q : B → Type 0) (refusal : CommandRefusal) (o : Option A) (f : A → Answer B) → ((x : A) → o ≡ Some x → Fine (f x) Q) → Fine (found refusal o >>= f) Q
after_found Q refusal None f next = tt
after_found Q refusal (Some x) f next = next x refl

pub after_context : {B : Type 0} (Q : B → Type 0) (T : Tree) (D : Changed) (q : ℕ) (c : Ctx) (f : Ctx → Answer B) → now_at T D q ≡ Some (Context c) → Fine (f c) Q → Fine (context_at T D q >>= f) Q
after_context Q T D q c f at next = rw at next

pub after_table : {B : Type 0} (Q : B → Type 0) (T : Tree) (D : Changed) (q : ℕ) (t : Tbl) (f : Tbl → Answer B) → now_at T D q ≡ Some (Table t) → Fine (f t) Q → Fine (table_at T D q >>= f) Q
after_table Q T D q t f at next = rw at next

pub after_message : {B : Type 0} (Q : B → Type 0) (T : Tree) (D : Changed) (q : ℕ) (m : Mes) (f : Mes → Answer B) → now_at T D q ≡ Some (Message m) → Fine (f m) Q → Fine (message_at T D q >>= f) Q
after_message Q T D q m f at next = rw at next

-- one way or the other
pub fine_either : {B : Type 0} (Q : B → Type 0) (b : Bool) (x y : Answer B) → (b ≡ true → Fine x Q) → (b ≡ false → Fine y Q) → Fine (if b then x else y) Q
fine_either Q true x y next other = next refl
fine_either Q false x y next other = other refl

-- a test is fine
pub fine_test : (b : Bool) (refusal : CommandRefusal) → Fine (refused_if b refusal) (λ u. Unit {0})
fine_test true refusal = tt
fine_test false refusal = tt

-- it is there, or it isn't
pub cases_Option : {A : Type 0} (o : Option A) → (o ≡ None) ⊎ ((x : A) × (o ≡ Some x))
cases_Option None = inl refl
cases_Option (Some x) = inr (x, refl)
