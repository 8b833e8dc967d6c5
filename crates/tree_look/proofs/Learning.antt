-- What is known of messages and folders, as a look goes on.
use Rattle.std.proofs.Common.{◌≡◌, ⊎_elim, ◌∙◌, ◌==◌, ◌%◌, if◌then◌else◌, inl, inr, ℕ, Bool, true, false, List, [], Some, refl, sym, subst, ap}
use Rattle.std.proofs.lemmas.Bool.{cases_Bool, eq-eqb, eqb-true}
use Rattle.std.proofs.lemmas.Option.{none-some, same_Some}
use Rattle.mail_tree.specs.Flags.{FlagList, known_note, unread_told}
use Rattle.mapi_values.specs.Keyed.{put_key}
use Rattle.mail_tree.specs.Places.{find_place, is_plain, is_plain_sort, place_id}
use Rattle.mail_tree.specs.Standing.{HasTree, ListsMessage}
use Rattle.mail_tree.specs.declared.note.Note.{Note}
use Rattle.mail_tree.specs.declared.note.Note.TheVariants.{Named, Unread}
use Rattle.mail_tree.specs.declared.places.FolderPlace.{FolderPlace}
use Rattle.mail_tree.specs.declared.places.Sort.{Sort}
use Rattle.node_port.specs.Nodes.{Nodes}
use Rattle.tree_look.specs.Faults.{IsOpened, IsReached}
use Rattle.tree_look.specs.Seeing.{AreKnown, AreListed, AreSeen, IsKnown, IsListedAs, IsNamedAs, IsSeenAs, IsUnread, KeepsName, Learns, StaysKnown}
use Rattle.tree_look.proofs.Excludes.{reached_placed}
use Rattle.tree_look.proofs.Found.{plain_kind}
use Rattle.tree_look.proofs.Steps.{put_found, stands}

-- a plain folder lists the message, and it is unread or not
abbrev pub IsSeen : Nodes → Bool → ℕ → Type 0
IsSeen N unread m = (f : ℕ) × IsOpened N f × ListsMessage N f m × IsUnread N m unread

-- one message more
pub learns-one : (N : Nodes) (m : ℕ) (unread : Bool) (old new : FlagList) → ((q : ℕ) → known_note q new ≡ (if q == m then Some (Unread unread) else known_note q old)) → IsSeen N unread m → Learns N old new
learns-one N m unread old new is here = λ seen q note known. elim (cases_Bool (q == m)) [
  | inl t ↦
      let told : Some (Unread unread) ≡ Some note = sym (rw t at (is q)) ∙ known in
      subst (IsSeenAs N q) (same_Some (Unread unread) note told) (subst (IsSeen N unread) (sym (eqb-true q m t)) here)
  | inr f ↦ seen q note (sym (rw f at (is q)) ∙ known)
]

-- the name of one folder more
pub learns-name : (N : Nodes) (f n : ℕ) (name : List ℕ) (old new : FlagList) → KeepsName f name old new → IsReached N n f → IsNamedAs N f name → Learns N old new
learns-name N f n name old new keeps reached named = λ seen q note known. ⊎_elim
    (λ same. seen q note (sym same ∙ known))
    (λ here.
    subst (IsSeenAs N q) (same_Some (Named name) note (sym here.2 ∙ known))
    (n, subst (IsReached N n) (sym here.1) reached, subst (λ k. IsNamedAs N k name) (sym here.1) named))
    (keeps q)

-- and of all that these folders list
pub known-still : (N : Nodes) (places : List FolderPlace) (old new : FlagList) → StaysKnown old new → AreKnown N places old → AreKnown N places new
known-still N places old new stays known f m at lists = stays m (known f m at lists)

-- nothing is known at first
pub none-seen : (N : Nodes) → AreSeen N []
none-seen N = λ q note known. absurd (none-some note known)

-- a folder that rows lead to stands in the tree
pub seen-listed : (N : Nodes) (places : List FolderPlace) (flags : FlagList) → HasTree N places → AreSeen N flags → AreListed N places flags
seen-listed N places flags tree seen = λ q note known. listed q note (seen q note known)
  where
    listed : (q : ℕ) (note : Note) → IsSeenAs N q note → IsListedAs N places q note
    listed q (Unread unread) s =
        let at = reached_placed N places tree s.1.0 s.0 s.1.1 in
        (s.0, (at.0, at.1, plain_kind (at.0).sort (s.0 % 32) (tree.kinds s.0 at.0 at.1) s.1.2), s.2, s.3)
    listed q (Named name) s = let at = reached_placed N places tree s.0 q s.1 in (at.0, at.1, s.2)

-- ---- the other direction: what is listed is known

-- of the message itself something is known then, and what was known stays so
pub known-one : (m : ℕ) (unread : Bool) (old new : FlagList) → ((q : ℕ) → known_note q new ≡ (if q == m then Some (Unread unread) else known_note q old)) → StaysKnown old new × IsKnown new m
known-one m unread old new is = (
  λ q was. elim (cases_Bool (q == m)) [ inl t ↦ (unread, ap unread_told (rw t at (is q))) | inr f ↦ (was.0, ap unread_told (rw f at (is q)) ∙ was.1) ],
  (unread, ap unread_told (rw (eq-eqb m m refl) at (is m))),
)

-- a search folder lists no message
pub known-foreign : (N : Nodes) (row parent : ℕ) (s : Sort) (places new : List FolderPlace) (flags : FlagList) → is_plain_sort s ≡ false → new ≡ put_key place_id (stands row parent s) places → AreKnown N places flags → AreKnown N new flags
known-foreign N row parent s places new flags foreign put known f m at lists = ⊎_elim
    (λ here. absurd (never (sym foreign ∙ subst (λ (q : FolderPlace). is_plain q ≡ true) (sym here.1) at.2)))
    (λ old. known f m (at.0, old, at.2) lists)
    (put_found row parent s places f at.0 (subst (λ k. find_place f k ≡ Some at.0) put at.1))
  where
    never : false ≡ true → ⊥
    never e = cc

-- one plain folder more, whose messages are known
pub known-plain : (N : Nodes) (row parent : ℕ) (s : Sort) (places new : List FolderPlace) (old flags : FlagList) → new ≡ put_key place_id (stands row parent s) places
    → StaysKnown old flags × ((m : ℕ) → ListsMessage N row m → IsKnown flags m) → AreKnown N places old → AreKnown N new flags
known-plain N row parent s places new old flags put now known f m at lists = ⊎_elim
    (λ here. now.1 m (subst (λ k. ListsMessage N k m) here.0 lists))
    (λ was. now.0 m (known f m (at.0, was, at.2) lists))
    (put_found row parent s places f at.0 (subst (λ k. find_place f k ≡ Some at.0) put at.1))

-- no folder was placed
pub none-known : (N : Nodes) (flags : FlagList) → AreKnown N [] flags
none-known N flags = λ f m at lists. absurd (none-some at.0 at.1)
