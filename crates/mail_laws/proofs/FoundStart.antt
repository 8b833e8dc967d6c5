-- An opening finds the tree of a new store.
use Rattle.std.proofs.Common.{◌≡◌, ◌≤◌, ℕ, ◌==◌, ◌%◌, ◌&&◌, Bool, true, false, Option, None, List, [], ◌∷◌, IsSome, is_some, Some, arith, refl, sym, subst, ap, ◌∙◌, inl, inr, ◌||◌}
use Rattle.std.proofs.lemmas.Bool.{and_parts, cases_Bool, eq-eqb, eqb-true, false≢true, or_cases}
use Rattle.std.proofs.lemmas.Option.{same_Some}
use Rattle.std.specs.Cmp.{nat_cmp_total}
use Rattle.std.specs.Ordering.{nat_cmp}
use Rattle.std.specs.FinMap as map
use Rattle.mapi_values.specs.Tables.{find_row}
use Rattle.mail_objects.specs.Forms.{Tbl}
use Rattle.mail_objects.specs.declared.object.Object.{Object}
use Rattle.mail_objects.specs.declared.object.Object.TheVariants.{Context, Message, Table, Bare}
use Rattle.mail_tree.specs.declared.places.FolderPlace.{FolderPlace}
use Rattle.mail_tree.specs.declared.places.Sort.{Sort}
use Rattle.mail_tree.specs.declared.places.Sort.TheVariants.{Plain}
use Rattle.mail_tree.specs.Places.{ROOT, find_place, is_plain}
use Rattle.mail_tree.specs.Columns.{hierarchy_table}
use Rattle.mail_tree.specs.Changing.{beside, hierarchy}
use Rattle.mail_tree.specs.Folders.{nid, place}
use Rattle.mail_tree.specs.Tree.{Tree, object_at}
use Rattle.mail_tree.specs.Start.{DELETED, IsStart, SEARCH_ROOT, TOP, deleted_name, root_hierarchy, search_name, start_objects, start_places, start_row, top_name}
use Rattle.mail_tree.specs.Found.{AreOwned, BelongsAt, IsFound, StandsBelow, named_sort}
use Rattle.mail_tree.proofs.KindsOfPuts.{same_table}
use Rattle.mail_tree.proofs.FineLaws.{cases_Option}
use Rattle.mail_laws.proofs.Starting.{find_passes, four}

-- the root's table of folders
listing : Tbl
listing = record { parent = 0; table = record hierarchy_table.table { rows = start_row TOP top_name ∷ start_row SEARCH_ROOT search_name ∷ start_row DELETED deleted_name ∷ [] } }

-- a row of the root's table names a plain folder that stands in it
listed_row : (r : ℕ) → IsSome (find_row r listing.table.rows) → (r ≡ ROOT → ⊥) × (r % 32 ≡ 2) × (find_place r start_places ≡ Some (place r ROOT))
unfolding listing
listed_row r row = elim (cases_Bool (TOP == r)) [
  | inl t ↦ subst P (eqb-true TOP r t) (λ e. omega arith, refl, refl)
  | inr a ↦ elim (cases_Bool (SEARCH_ROOT == r)) [
    | inl t ↦ subst P (eqb-true SEARCH_ROOT r t) (λ e. omega arith, refl, refl)
    | inr b ↦ elim (cases_Bool (DELETED == r)) [
      | inl t ↦ subst P (eqb-true DELETED r t) (λ e. omega arith, refl, refl)
      | inr c ↦ absurd (false≢true (rw (a, b, c) at row))
    ]
  ]
]
  where
    P : ℕ → Type 0
    P x = (x ≡ ROOT → ⊥) × (x % 32 ≡ 2) × (find_place x start_places ≡ Some (place x ROOT))

-- an object of the new store belongs at the id
is_plain_one : Option FolderPlace → Bool
is_plain_one None = false
is_plain_one (Some p) = is_plain p

belongs : ℕ → Object → Bool
belongs q (Context c) = (q == 0x21) || ((q == 0x61) || is_some (find_place q start_places))
belongs q (Table t) = is_plain_one (find_place (beside q 2) start_places) && ((q % 32 == 13) || ((q % 32 == 14) || (q % 32 == 15)))
belongs q (Message m) = true
belongs q (Bare parent) = false

belongs_is : (q : ℕ) (o : Object) → belongs q o ≡ true → BelongsAt start_places q o
unfolding belongs is_plain_one
belongs_is q (Context c) e = elim (or_cases (q == 0x21) ((q == 0x61) || is_some (find_place q start_places)) e) [
  | inl t ↦ inl (eqb-true q 0x21 t)
  | inr u ↦ inr (elim (or_cases (q == 0x61) (is_some (find_place q start_places)) u) [ inl t ↦ inl (eqb-true q 0x61 t) | inr is ↦ inr is ])
]
belongs_is q (Message m) e = tt
belongs_is q (Bare parent) e = absurd (false≢true e)
belongs_is q (Table t) e =
    let p = and_parts (is_plain_one (find_place (beside q 2) start_places)) ((q % 32 == 13) || ((q % 32 == 14) || (q % 32 == 15))) e in
    elim (cases_Option (find_place (beside q 2) start_places)) [
      | inl none ↦ absurd (false≢true (ap is_plain_one (sym none) ∙ p.0))
      | inr r ↦ (
        beside q 2,
        (r.0, r.1, ap is_plain_one (sym r.1) ∙ p.0),
        elim (or_cases (q % 32 == 13) ((q % 32 == 14) || (q % 32 == 15)) p.1) [
          | inl k ↦ let is = eqb-true (q % 32) 13 k in inl (omega arith)
          | inr k ↦ elim (or_cases (q % 32 == 14) (q % 32 == 15) k) [
            | inl l ↦ let is = eqb-true (q % 32) 14 l in inr (inl (omega arith))
            | inr l ↦ let is = eqb-true (q % 32) 15 l in inr (inr (omega arith))
          ]
        ],
      )
    ]

all_belong : (name : List ℕ) → AreOwned start_places (λ q. map.find nat_cmp q (start_objects name))
unfolding start_objects root_hierarchy belongs is_plain_one
all_belong name q o e = belongs_is q o (find_passes belongs (start_objects name) q o e refl)

module _ (name : List ℕ) (T : Tree) (start : IsStart name T) where
  object_is : (q : ℕ) → object_at T q ≡ map.find nat_cmp q (start_objects name)
  object_is q = ap (λ x. map.get x q) start.objects ∙ map.get-from_entries nat_cmp_total (start_objects name) q

  -- the tables of folders of a new store
  root_table : object_at T (hierarchy ROOT) ≡ Some (Table listing)
  unfolding start_objects root_hierarchy listing
  root_table = object_is (hierarchy ROOT)

  top_table : object_at T (hierarchy TOP) ≡ Some (Table hierarchy_table)
  unfolding start_objects
  top_table = object_is (hierarchy TOP)

  search_table : object_at T (hierarchy SEARCH_ROOT) ≡ Some (Table hierarchy_table)
  unfolding start_objects
  search_table = object_is (hierarchy SEARCH_ROOT)

  deleted_table : object_at T (hierarchy DELETED) ≡ Some (Table hierarchy_table)
  unfolding start_objects
  deleted_table = object_is (hierarchy DELETED)

  abbrev Named : ℕ → Sort → ℕ → Type 0
  Named r s f = (r ≡ ROOT → ⊥) × (find_place r start_places ≡ Some (record { nid = nid r; parent = nid f; sort = s }))

  no_row : (f : ℕ) (t : Tbl) (r : ℕ) (s : Sort) → object_at T (hierarchy f) ≡ Some (Table hierarchy_table) → object_at T (hierarchy f) ≡ Some (Table t) → IsSome (find_row r t.table.rows) → Named r s f
  no_row f t r s is_empty is row = absurd (false≢true (ap (λ (x : Tbl). is_some (find_row r x.table.rows)) (same_table hierarchy_table t (sym is_empty ∙ is)) ∙ row))

  root_row : (t : Tbl) (r : ℕ) (s : Sort) → object_at T (hierarchy ROOT) ≡ Some (Table t) → IsSome (find_row r t.table.rows) → named_sort T r ≡ Some s → Named r s ROOT
  root_row t r s is row named =
      let k = listed_row r (subst (λ (x : Tbl). IsSome (find_row r x.table.rows)) (sym (same_table listing t (sym root_table ∙ is))) row) in
      let sort : Plain ≡ s = same_Some Plain s (rw (eq-eqb (r % 32) 2 k.1) at named) in
      (k.0, k.2 ∙ ap (λ x. Some (record { nid = nid r; parent = nid ROOT; sort = x })) sort)

  starts : IsFound T
  starts = record {
    listed = λ f p t r s e plain is row named.
        let k = four (λ f p. object_at T (hierarchy f) ≡ Some (Table t) → Named r s f) (λ is. root_row t r s is row named) (λ is. no_row TOP t r s top_table is row) (λ is. no_row SEARCH_ROOT t r s search_table is row) (λ is. no_row DELETED t r s deleted_table is row)
        f p (ap (find_place f) (sym start.places) ∙ e) is in
        (k.0, ap (find_place r) start.places ∙ k.1);
    reached = λ f p e.
        let k = four (λ f p. (n : ℕ) × (n ≤ 64) × StandsBelow start_places n f) (0, omega arith, refl) (1, omega arith, (λ e. omega arith, (place TOP ROOT, refl, refl))) (1, omega arith, (λ e. omega arith, (place SEARCH_ROOT ROOT, refl, refl)))
        (1, omega arith, (λ e. omega arith, (place DELETED ROOT, refl, refl))) f p (ap (find_place f) (sym start.places) ∙ e) in
        (k.0, k.1, subst (λ places. StandsBelow places k.0 f) (sym start.places) k.2);
    owned = λ q o e. subst (λ places. BelongsAt places q o) (sym start.places) (all_belong name q o (sym (object_is q) ∙ e));
  }

pub starts_found : (name : List ℕ) (T : Tree) → IsStart name T → IsFound T
starts_found name T start = starts name T start
