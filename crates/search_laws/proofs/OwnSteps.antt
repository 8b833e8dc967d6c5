-- What the commands that name an own search folder have in common.
use Rattle.std.proofs.Common.{◌≡◌, ◌∙◌, ℕ, ◌%◌, List, None, Some, Ok, Err, IfOk, IsSome, ap, arith, subst, sym, inl, inr}
use Rattle.std.proofs.lemmas.Bool.{cases_eq, false≢true}
use Rattle.mail_tree.specs.declared.places.FolderPlace.{FolderPlace}
use Rattle.mail_tree.specs.Changing.{Answer, as_message, hierarchy, nothing, now_at}
use Rattle.mail_tree.specs.Folders.{Outcome}
use Rattle.mail_tree.specs.Places.{ROOT, find_place}
use Rattle.mail_tree.specs.Tree.{Tree, object_at}
use Rattle.mail_tree.specs.Whole.{Fine}
use Rattle.mail_tree.proofs.AfterTree.{now_nothing}
use Rattle.mail_tree.proofs.FineLaws.{cases_Option}
use Rattle.mail_tree.proofs.KindsOfPuts.{beside_kind}
use Rattle.mail_laws.specs.Laws.{AreCountedBut, AreShown, Counts, Mirrors}
use Rattle.mail_laws.proofs.Effects.{no_message}
use Rattle.mail_laws.proofs.Keeping.{Four, Kept}
use Rattle.mail_laws.proofs.MessageSteps.{Before, Keeps}
use Rattle.mail_laws.proofs.MirrorPuts.{AreShownBut, shown_but}

-- an answer that is fine, and what holds of each
pub fine_with : {A : Type 0} (P Q R : A → Type 0) (a : Answer A) → Fine a P → IfOk a Q → ((x : A) → P x → Q x → R x) → Fine a R
fine_with P Q R (Ok x) p q next = next x p q
fine_with P Q R (Err None) p q next = p
fine_with P Q R (Err (Some refusal)) p q next = tt

-- four facts of an answer
pub if_four : {A : Type 0} (P Q R S U : A → Type 0) (a : Answer A) → IfOk a P → IfOk a Q → IfOk a R → IfOk a S → ((x : A) → P x → Q x → R x → S x → U x) → IfOk a U
if_four P Q R S U (Ok x) p q r s next = next x p q r s
if_four P Q R S U (Err e) p q r s next = tt

-- before a command
pub now_before : (T : Tree) (q : ℕ) → now_at T nothing q ≡ object_at T q
now_before T q = ap (λ at. at q) (now_nothing T)

-- the place of a folder that has one
pub place_of : (places : List FolderPlace) (s : ℕ) → IsSome (find_place s places) → (p : FolderPlace) × (find_place s places ≡ Some p)
place_of places s there = elim (cases_Option (find_place s places)) [ inl none ↦ absurd (false≢true (subst IsSome none there)) | inr p ↦ p ]

-- a search folder isn't the root
pub no_root : (s : ℕ) → s % 32 ≡ 3 → s ≡ ROOT → ⊥
no_root s three e = omega (arith, e, three)

-- messages stay where nothing changes at their ids
pub messages_stay : (T : Tree) (o : Outcome) → Before T → Keeps T o → Kept Four (object_at T) (now_at T o.changed) → (q : ℕ) → as_message (now_at T o.changed q) ≡ as_message (object_at T q)
messages_stay T o w w' kept q = elim (cases_eq (q % 32) 4) [
  | inl four ↦ ap as_message (kept q four)
  | inr other ↦ no_message q (now_at T o.changed q) (w'.typed q) other ∙ sym (no_message q (now_at T nothing q) (w.typed q) other) ∙ ap as_message (now_before T q)
]

-- the id is none of a plain folder's values or table of folders
abbrev pub IsQuietId : ℕ → Type 0
IsQuietId q = (q % 32 ≡ 2 → ⊥) × (q % 32 ≡ 13 → ⊥)

pub no_hierarchy : (g : ℕ) → IsQuietId (hierarchy g) → ⊥
no_hierarchy g quiet = quiet.1 (beside_kind g 13 (omega arith))

-- before a command rows show what they name, and counts are right
pub shown_before : (T : Tree) → Mirrors T → AreShownBut (λ x. ⊥) T.places (now_at T nothing)
shown_before T m = shown_but T.places (now_at T nothing) (subst (AreShown T.places) (sym (now_nothing T)) m)

pub counted_before : (T : Tree) → Counts T → AreCountedBut (λ x. ⊥) T.places (now_at T nothing)
counted_before T k = subst (AreCountedBut (λ x. ⊥) T.places) (sym (now_nothing T)) k
