-- A store with no folder but the root is whole.
use Rattle.std.proofs.Common.{◌≡◌, ℕ, ◌==◌, ◌%◌, true, List, [], ◌∷◌, IsSome, is_some, Option, None, Some, refl, sym, subst, ap, ◌∙◌, ◌⊎◌, inl, inr, if◌then◌else◌, arith}
use Rattle.std.proofs.lemmas.Bool.{cases_Bool, eqb-true, false≢true}
use Rattle.std.proofs.lemmas.Option.{none-some, same_Some}
use Rattle.std.specs.Cmp.{nat_cmp_total}
use Rattle.std.specs.Ordering.{nat_cmp, eq_by_cmp}
use Rattle.std.specs.FinMap as map
use Rattle.node_port.specs.Nodes.{no_nodes}
use Rattle.mapi_values.specs.Keyed.{keys_ascend}
use Rattle.mapi_values.specs.Messages.{Mes}
use Rattle.mapi_values.specs.Tables.{find_row}
use Rattle.mail_objects.specs.Forms.{Ctx}
use Rattle.mail_objects.specs.declared.object.Object.{Object}
use Rattle.mail_objects.specs.declared.object.Object.TheVariants.{Context, Table, Message}
use Rattle.mail_tree.specs.declared.places.FolderPlace.{FolderPlace}
use Rattle.named_props.specs.Holding.{is_form, names_in, names_of}
use Rattle.mail_tree.specs.Names.{AreNames}
use Rattle.mail_tree.specs.Changing.{associated, contents, hierarchy}
use Rattle.mail_tree.specs.Places.{ROOT, find_place}
use Rattle.mail_tree.specs.Columns.{contents_table, hierarchy_table}
use Rattle.mail_tree.specs.Folders.{place}
use Rattle.mail_tree.specs.Tree.{Tree, object_at}
use Rattle.mail_tree.specs.Values.{folder_props}
use Rattle.mail_tree.specs.Whole.{AreWhole, IsWhole, fits_id, kind_of_sort}
use Rattle.mail_laws.specs.Laws.{AreCountedBut, AreShown, Counts, IsCounted, Mirrors}
use Rattle.mail_tree.proofs.AfterTree.{tied}
use Rattle.mail_tree.proofs.KindsOfPuts.{same_table}

-- the root, alone
places : List FolderPlace
places = place ROOT ROOT ∷ []

store : Object
store = Context (record { parent = 0; props = []; kept = [] })

names : Ctx
names = record { parent = 0; props = []; kept = [] }

root_values : Ctx
root_values = record { parent = ROOT; props = folder_props []; kept = [] }

objects : List (ℕ × Object)
objects = (0x21, store) ∷ (0x61, Context names) ∷ (0x122, Context root_values) ∷ (0x12D, Table hierarchy_table) ∷ (0x12E, Table contents_table) ∷ []

pub beginning : Tree
beginning = record { places = places; objects = map.from_entries objects; others = no_nodes; last = [] }

abbrev at : ℕ → Option Object
at q = if q == 0x21 then Some store else if q == 0x61 then Some (Context names) else if q == 0x122 then Some (Context root_values) else if q == 0x12D then Some (Table hierarchy_table) else if q == 0x12E then Some (Table contents_table) else None

at_is : at ≡ object_at beginning
unfolding beginning objects
at_is i q = sym (map.get-from_entries nat_cmp_total objects q ∙ found q) i
  where
    same : (x y : ℕ) → eq_by_cmp nat_cmp x y ≡ (x == y)
    same x y = tied (x == y) x y refl

    found : (q : ℕ) → map.find nat_cmp q objects ≡ at q
    found q = rw (same q 0x21, same q 0x61, same q 0x122, same q 0x12D, same q 0x12E) refl

-- what stands there
stands : (q : ℕ) (o : Object) → at q ≡ Some o → ((q ≡ 0x21) × (store ≡ o)) ⊎ (((q ≡ 0x61) × (Context names ≡ o)) ⊎ (((q ≡ 0x122) × (Context root_values ≡ o)) ⊎ (((q ≡ 0x12D) × (Table hierarchy_table ≡ o)) ⊎ ((q ≡ 0x12E) × (Table contents_table ≡ o)))))
stands q o e = elim (cases_Bool (q == 0x21)) [
  | inl t ↦ inl (eqb-true q 0x21 t, same_Some store o (rw t at e))
  | inr t ↦ elim (cases_Bool (q == 0x61)) [
    | inl n ↦ inr (inl (eqb-true q 0x61 n, same_Some (Context names) o (rw (t, n) at e)))
    | inr n ↦ elim (cases_Bool (q == 0x122)) [
      | inl u ↦ inr (inr (inl (eqb-true q 0x122 u, same_Some (Context root_values) o (rw (t, n, u) at e))))
      | inr u ↦ elim (cases_Bool (q == 0x12D)) [
        | inl v ↦ inr (inr (inr (inl (eqb-true q 0x12D v, same_Some (Table hierarchy_table) o (rw (t, n, u, v) at e)))))
        | inr v ↦ elim (cases_Bool (q == 0x12E)) [
          | inl w ↦ inr (inr (inr (inr (eqb-true q 0x12E w, same_Some (Table contents_table) o (rw (t, n, u, v, w) at e)))))
          | inr w ↦ absurd (none-some o (rw (t, n, u, v, w) at e))
        ]
      ]
    ]
  ]
]

placed : (f : ℕ) (p : FolderPlace) → find_place f places ≡ Some p → (ROOT ≡ f) × (place ROOT ROOT ≡ p)
unfolding places
placed f p e = elim (cases_Bool (ROOT == f)) [
  | inl t ↦ (eqb-true ROOT f t, same_Some (place ROOT ROOT) p (rw t at e))
  | inr t ↦ absurd (none-some p (rw t at e))
]

fits : (q k : ℕ) (o x : Object) → q ≡ k → x ≡ o → fits_id k x ≡ true → fits_id q o ≡ true
fits q k o x a b e = subst (λ z. fits_id q z ≡ true) b (subst (λ z. fits_id z x ≡ true) (sym a) e)

no_message : (m : ℕ) (M : Mes) → at m ≡ Some (Message M) → ⊥
unfolding store
no_message m M is = elim (stands m (Message M) is) [ inl s ↦ cc s.1 | inr t ↦ elim t [ inl s ↦ cc s.1 | inr t ↦ elim t [ inl s ↦ cc s.1 | inr t ↦ elim t [ inl s ↦ cc s.1 | inr s ↦ cc s.1 ] ] ] ]

-- no values hold no names
no_names : AreNames names.props
unfolding names names_of is_form
no_names = (names_in [], refl, record { buckets = refl; others = refl; guids_fit = omega arith; entries_fit = omega arith }, refl)

is_whole : AreWhole places at
unfolding places store names root_values
is_whole = record {
  ascend = refl;
  root = (place ROOT ROOT, refl, refl, refl);
  kinds = λ f p e. let w = placed f p e in subst (λ x. f % 32 ≡ kind_of_sort x.sort) w.1 (subst (λ x. x % 32 ≡ 2) w.0 refl);
  parents = λ f p e no_root. absurd (no_root (sym (placed f p e).0));
  typed = λ q o e. elim (stands q o e) [
    | inl s ↦ fits q 0x21 o store s.0 s.1 refl
    | inr t ↦ elim t [
      | inl s ↦ fits q 0x61 o (Context names) s.0 s.1 refl
      | inr t ↦ elim t [ inl s ↦ fits q 0x122 o (Context root_values) s.0 s.1 refl | inr t ↦ elim t [ inl s ↦ fits q 0x12D o (Table hierarchy_table) s.0 s.1 refl | inr s ↦ fits q 0x12E o (Table contents_table) s.0 s.1 refl ] ]
    ]
  ];
  rows_ascend = λ q t e. elim (stands q (Table t) e) [
    | inl s ↦ cc
    | inr n ↦ elim n [
      | inl s ↦ cc
      | inr u ↦ elim u [
        | inl s ↦ cc
        | inr u ↦ elim u [
          | inl s ↦ subst (λ x. keys_ascend (λ r. r.0) 0 x.table.rows ≡ true) (same_table hierarchy_table t (ap (λ x. Some x) s.1)) refl
          | inr s ↦ subst (λ x. keys_ascend (λ r. r.0) 0 x.table.rows ≡ true) (same_table contents_table t (ap (λ x. Some x) s.1)) refl
        ]
      ]
    ]
  ];
  store = refl;
  names = (names, refl, no_names);
  contexts = λ f p e. let w = placed f p e in (root_values, ap at (sym w.0), λ no_root. ap (λ (x : FolderPlace). x.parent.bits) w.1);
  tables = λ f p e plain. let w = placed f p e in subst (λ x. IsSome (at (hierarchy x)) × IsSome (at (contents x))) w.0 (refl, refl);
  listed = λ f p t m e plain is row four.
      let w = placed f p e in
      let same = same_table contents_table t (ap (λ x. at (contents x)) w.0 ∙ is) in
      absurd (false≢true (ap (λ x. is_some (find_row m x.table.rows)) same ∙ row));
  held = λ m M is. absurd (no_message m M is);
}

is_shown : AreShown places at
is_shown = record { folders = λ f p c e no_root is. absurd (no_root (sym (placed f p e).0)); messages = λ m M is. absurd (no_message m M is) }

is_counted : AreCountedBut (λ x. ⊥) places at
unfolding places root_values
is_counted f p c t e plain free is_c is_t =
    let w = placed f p e in
    let same_c : root_values ≡ c = same_context root_values c (ap at w.0 ∙ is_c) in
    let same_t = same_table contents_table t (ap (λ x. at (contents x)) w.0 ∙ is_t) in
    subst (λ x. IsCounted places at x c t) w.0 (subst (λ x. IsCounted places at ROOT x t) same_c (subst (λ x. IsCounted places at ROOT root_values x) same_t (record { messages = refl; unread = refl; folders = refl })))
  where
    same_context : (a b : Ctx) → ◌≡◌ {A = Option Object} (Some (Context a)) (Some (Context b)) → a ≡ b
    same_context a b e = cc

pub begins : IsWhole beginning × Mirrors beginning × Counts beginning
unfolding beginning
begins = (record { objects = subst (AreWhole places) at_is is_whole; no_stray = λ f p e plain. map.get-empty nat_cmp (associated f) }, subst (AreShown places) at_is is_shown, subst (AreCountedBut (λ x. ⊥) places) at_is is_counted)
