-- Trees that are nearly whole are whole once what was left open holds too.
use Rattle.std.proofs.Common.{◌≡◌, ℕ, ◌%◌, true, List, Option, Some, IsSome, arith, refl, sym, subst, ap, ◌∙◌, inl, inr}
use Rattle.std.proofs.lemmas.Bool.{cases_eq}
use Rattle.std.proofs.lemmas.Option.{same_Some, none-some}
use Rattle.mapi_values.specs.Keyed.{put_key, drop_key}
use Rattle.mapi_values.specs.Messages.{Mes}
use Rattle.mapi_values.specs.Tables.{find_row}
use Rattle.mapi_values.proofs.KeyedLaws.{put-ascends, drop-ascends}
use Rattle.mail_objects.specs.Forms.{Ctx, Tbl}
use Rattle.mail_objects.specs.declared.object.Object.{Object}
use Rattle.mail_objects.specs.declared.object.Object.TheVariants.{Context, Table, Message}
use Rattle.mail_tree.specs.declared.places.FolderPlace.{FolderPlace}
use Rattle.mail_tree.specs.Places.{ROOT, find_place, is_plain, place_id}
use Rattle.mail_tree.specs.Changing.{contents, hierarchy}
use Rattle.mail_tree.specs.Folders.{place}
use Rattle.mail_tree.specs.Whole.{AreWhole, HasRow, kind_of_sort}
use Rattle.mail_tree.proofs.KeyedFinds.{find-put_same, find-put_other, find-drop_same, find-drop_other}
use Rattle.mail_tree.proofs.Nearly.{AreNearly, folder_kind, message_id}
use Rattle.mail_tree.proofs.KindsOfPuts.{low}

-- a message's id is no folder's
pub no_folder : {E : ℕ → Type 0} {places : List FolderPlace} {at : ℕ → Option Object} → AreNearly E places at → (m f : ℕ) (p : FolderPlace) → m % 32 ≡ 4 → find_place f places ≡ Some p → f ≡ m → ⊥
no_folder n m f p four e same = let (above, below) = low f (folder_kind p.sort f (n.kinds f p e)) in omega arith

-- what holds of the message too
pub whole_message : (places : List FolderPlace) (at : ℕ → Option Object) (m : ℕ) → AreNearly (λ x. x ≡ m) places at → m % 32 ≡ 4
    → ((f : ℕ) (p : FolderPlace) (t : Tbl) → find_place f places ≡ Some p → is_plain p ≡ true → at (contents f) ≡ Some (Table t) → IsSome (find_row m t.table.rows) → (M : Mes) × (at m ≡ Some (Message M)) × (M.folder ≡ f))
    → ((M : Mes) → at m ≡ Some (Message M) → (p : FolderPlace) × (find_place M.folder places ≡ Some p) × (is_plain p ≡ true) × HasRow (at (contents M.folder)) m)
    → AreWhole places at
whole_message places at m n four listed held = record {
  ascend = n.ascend;
  root = n.root;
  kinds = n.kinds;
  parents = λ f p e other. n.parents f p e other (no_folder n m f p four e);
  typed = n.typed;
  rows_ascend = n.rows_ascend;
  store = n.store;
  names = n.names;
  contexts = λ f p e. let c = n.contexts f p e in (c.0, c.1, λ no_root. c.2 no_root (no_folder n m f p four e));
  tables = n.tables;
  listed = λ f p t k e plain at row kind. elim (cases_eq k m) [
    | inl same ↦ rw same (listed f p t e plain at (rw same at row))
    | inr other ↦ n.listed f p t k e plain at row kind other
  ];
  held = λ k M is. elim (cases_eq k m) [
    | inl same ↦ rw same (held M (rw same at is))
    | inr other ↦ n.held k M is other
  ];
}

-- a plain folder is one still
pub plain_still : (places : List FolderPlace) (f parent g : ℕ) (p : FolderPlace) → find_place g places ≡ Some p → is_plain p ≡ true → (r : FolderPlace) × (find_place g (put_key place_id (place f parent) places) ≡ Some r) × (is_plain r ≡ true)
plain_still places f parent g p e plain = elim (cases_eq g f) [
  | inl same ↦ (place f parent, ap (λ x. find_place x (put_key place_id (place f parent) places)) same ∙ find-put_same place_id (place f parent) places, refl)
  | inr other ↦ (p, find-put_other place_id g (place f parent) places other ∙ e, plain)
]

-- a folder takes a place in a plain one that lists it
pub whole_folder : (places : List FolderPlace) (at : ℕ → Option Object) (f parent : ℕ) (q : FolderPlace) → AreNearly (λ x. x ≡ f) places at → f % 32 ≡ 2 → (f ≡ ROOT → ⊥)
    → find_place parent places ≡ Some q → is_plain q ≡ true → HasRow (at (hierarchy parent)) f → ((c : Ctx) × (at f ≡ Some (Context c)) × (c.parent ≡ parent)) → IsSome (at (hierarchy f)) → IsSome (at (contents f))
    → ((t : Tbl) (m : ℕ) → at (contents f) ≡ Some (Table t) → IsSome (find_row m t.table.rows) → m % 32 ≡ 4 → (M : Mes) × (at m ≡ Some (Message M)) × (M.folder ≡ f))
    → AreWhole (put_key place_id (place f parent) places) at
whole_folder places at f parent q n kind other_root eq plain_q row values folders messages listed = record {
  ascend = put-ascends place_id 0 (place f parent) places (omega arith) n.ascend;
  root = let w = n.root in (w.0, others ROOT (λ e. other_root (sym e)) ∙ w.1, w.2, w.3);
  kinds = λ g p e. elim (cases_eq g f) [
    | inl same ↦ subst (λ x. g % 32 ≡ kind_of_sort x.sort) (is_here g p same e) (ap (λ x. x % 32) same ∙ kind)
    | inr other ↦ n.kinds g p (was g p other e)
  ];
  parents = λ g p e no_root. elim (cases_eq g f) [
    | inl same ↦ subst (λ x. (q : FolderPlace) × (find_place x.parent.bits (put_key place_id (place f parent) places) ≡ Some q) × (is_plain q ≡ true) × HasRow (at (hierarchy x.parent.bits)) g) (is_here g p same e)
        (let w = still parent q eq plain_q in (w.0, w.1, w.2, subst (λ x. HasRow (at (hierarchy parent)) x) (sym same) row))
    | inr other ↦ let v = n.parents g p (was g p other e) no_root other in let w = still p.parent.bits v.0 v.1 v.2 in (w.0, w.1, w.2, v.3)
  ];
  typed = n.typed;
  rows_ascend = n.rows_ascend;
  store = n.store;
  names = n.names;
  contexts = λ g p e. elim (cases_eq g f) [
    | inl same ↦ (values.0, ap at same ∙ values.1, λ no_root. values.2 ∙ ap (λ x. x.parent.bits) (is_here g p same e))
    | inr other ↦ let w = n.contexts g p (was g p other e) in (w.0, w.1, λ no_root. w.2 no_root other)
  ];
  tables = λ g p e plain. elim (cases_eq g f) [
    | inl same ↦ subst (λ x. IsSome (at (hierarchy x)) × IsSome (at (contents x))) (sym same) (folders, messages)
    | inr other ↦ n.tables g p (was g p other e) plain
  ];
  listed = λ g p t m e plain at_t row_m four. elim (cases_eq g f) [
    | inl same ↦ let w = listed t m (ap (λ x. at (contents x)) (sym same) ∙ at_t) row_m four in (w.0, w.1, w.2 ∙ sym same)
    | inr other ↦ n.listed g p t m (was g p other e) plain at_t row_m four (λ e. omega arith)
  ];
  held = λ m M is.
      let four = (message_id m M (n.typed m (Message M) is)).0 in
      let v = n.held m M is (λ e. omega arith) in let w = still M.folder v.0 v.1 v.2 in (w.0, w.1, w.2, v.3);
}
  where
    others : (g : ℕ) → (g ≡ f → ⊥) → find_place g (put_key place_id (place f parent) places) ≡ find_place g places
    others g other = find-put_other place_id g (place f parent) places other

    was : (g : ℕ) (p : FolderPlace) → (g ≡ f → ⊥) → find_place g (put_key place_id (place f parent) places) ≡ Some p → find_place g places ≡ Some p
    was g p other e = sym (others g other) ∙ e

    is_here : (g : ℕ) (p : FolderPlace) → g ≡ f → find_place g (put_key place_id (place f parent) places) ≡ Some p → place f parent ≡ p
    is_here g p same e = same_Some (place f parent) p (sym (ap (λ x. find_place x (put_key place_id (place f parent) places)) same ∙ find-put_same place_id (place f parent) places) ∙ e)

    still : (g : ℕ) (p : FolderPlace) → find_place g places ≡ Some p → is_plain p ≡ true → (r : FolderPlace) × (find_place g (put_key place_id (place f parent) places) ≡ Some r) × (is_plain r ≡ true)
    still g p e plain = plain_still places f parent g p e plain

-- an empty folder loses its place
pub whole_without : (places : List FolderPlace) (at : ℕ → Option Object) (f : ℕ) → AreWhole places at → (f ≡ ROOT → ⊥) → ((g : ℕ) → HasRow (at (hierarchy f)) g → ⊥) → ((m : ℕ) → HasRow (at (contents f)) m → ⊥)
    → AreWhole (drop_key place_id f places) at
whole_without places at f w other_root no_folders no_messages = record {
  ascend = drop-ascends place_id 0 f places w.ascend;
  root = let r = w.root in (r.0, others ROOT (λ e. other_root (sym e)) ∙ r.1, r.2, r.3);
  kinds = λ g p e. w.kinds g p (was g p e);
  parents = λ g p e no_root.
      let v = w.parents g p (was g p e) no_root in
      (v.0, others p.parent.bits (λ same. no_folders g (subst (λ x. HasRow (at (hierarchy x)) g) same v.3)) ∙ v.1, v.2, v.3);
  typed = w.typed;
  rows_ascend = w.rows_ascend;
  store = w.store;
  names = w.names;
  contexts = λ g p e. w.contexts g p (was g p e);
  tables = λ g p e. w.tables g p (was g p e);
  listed = λ g p t m e. w.listed g p t m (was g p e);
  held = λ m M is.
      let v = w.held m M is in
      (v.0, others M.folder (λ same. no_messages m (subst (λ x. HasRow (at (contents x)) m) same v.3)) ∙ v.1, v.2, v.3);
}
  where
    others : (g : ℕ) → (g ≡ f → ⊥) → find_place g (drop_key place_id f places) ≡ find_place g places
    others g other = find-drop_other place_id g f places other

    was : (g : ℕ) (p : FolderPlace) → find_place g (drop_key place_id f places) ≡ Some p → find_place g places ≡ Some p
    was g p e = elim (cases_eq g f) [
      | inl same ↦ absurd (none-some p (sym (ap (λ x. find_place x (drop_key place_id f places)) same ∙ find-drop_same place_id 0 f places w.ascend) ∙ e))
      | inr other ↦ sym (others g other) ∙ e
    ]
