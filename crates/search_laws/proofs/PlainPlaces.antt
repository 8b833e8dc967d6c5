-- What places of plain folders tell of ids, and of what stands there, where a search folder comes, moves or goes.
use Rattle.std.proofs.Common.{◌≡◌, ◌∙◌, ℕ, ◌%◌, true, List, Option, Some, ap, arith, refl, sym, inl, inr}
use Rattle.std.proofs.lemmas.Bool.{cases_eq}
use Rattle.std.proofs.lemmas.Option.{same_Some}
use Rattle.mail_objects.specs.Forms.{Ctx}
use Rattle.mail_objects.specs.declared.object.Object.{Object}
use Rattle.mail_objects.specs.declared.object.Object.TheVariants.{Context}
use Rattle.mail_tree.specs.declared.places.FolderPlace.{FolderPlace}
use Rattle.mail_tree.specs.declared.places.Sort.{Sort}
use Rattle.mail_tree.specs.declared.places.Sort.TheVariants.{Plain, Foreign}
use Rattle.mail_tree.specs.Places.{ROOT, find_place, is_plain}
use Rattle.mail_tree.specs.Whole.{AreWhole, kind_of_sort}
use Rattle.mail_tree.proofs.Nearly.{AreNearly, nearly, plain_id}
use Rattle.mail_laws.proofs.FoundSteps.{PlainIds}

-- a plain folder is none of a search folder's id
pub plain_other : {E : ℕ → Type 0} {places : List FolderPlace} {at : ℕ → Option Object} → AreNearly E places at → (s : ℕ) → s % 32 ≡ 3 → (g : ℕ) (p : FolderPlace) → find_place g places ≡ Some p → is_plain p ≡ true → g ≡ s → ⊥
plain_other n s three g p e plain same = let two = plain_id n g p e plain in omega (arith, two, three, same)

-- plain folders, and those in which they stand, have ids of kind 2
pub plain_ids : (places : List FolderPlace) (at : ℕ → Option Object) → AreWhole places at → PlainIds places
plain_ids places at w f p e plain = (
  two f p e plain,
  elim (cases_eq f ROOT) [
    | inl root ↦
        let same = same_Some w.root.0 p (sym w.root.1 ∙ ap (λ x. find_place x places) (sym root) ∙ e) in
        ap (λ (x : FolderPlace). x.parent.bits % 32) (sym same) ∙ ap (λ x. x % 32) w.root.3
    | inr other ↦ let q = w.parents f p e other in two p.parent.bits q.0 q.1 q.2
  ],
)
  where
    two : (g : ℕ) (q : FolderPlace) → find_place g places ≡ Some q → is_plain q ≡ true → g % 32 ≡ 2
    two g q e plain = plain_id (nearly (λ x. ⊥) places at w) g q e plain

pub same_context : (c d : Ctx) → ◌≡◌ {A = Option Object} (Some (Context c)) (Some (Context d)) → c ≡ d
same_context c d e = cc

pub foreign_sort : (s : Sort) → kind_of_sort s ≡ 3 → s ≡ Foreign
foreign_sort Plain e = absurd (omega arith)
foreign_sort Foreign e = refl
