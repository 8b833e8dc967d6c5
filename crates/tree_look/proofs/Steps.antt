-- Steps of the walk.
use Rattle.std.proofs.Common.{◌≡◌, ◌⊎◌, inl, inr, ⊎_elim, ◌∙◌, ℕ, zero, suc, ◌%◌, ◌==◌, ◌<◌, ◌≤◌, ◌+◌, true, false, List, [], ◌∷◌, length, map, get_or, Option, None, Some, IsSome, arith, refl, sym, subst, ap}
use Rattle.std.specs.Prelude.{nat_le}
use Rattle.std.proofs.lemmas.Bool.{and_parts, cases_Bool, cases_eq, cases_lt, eqb-true, eq-eqb, leb-true}
use Rattle.std.proofs.lemmas.Option.{none-some, same_Some}
use Rattle.pst_base.specs.declared.ids.Nid.{Nid}
use Rattle.mapi_values.specs.Keyed.{keys_ascend, put_key}
use Rattle.mapi_values.specs.Tables.{find_row}
use Rattle.mapi_values.specs.Values.{Val}
use Rattle.mapi_values.proofs.KeyedLaws.{put-ascends}
use Rattle.mail_objects.specs.Forms.{Ctx, Tbl}
use Rattle.mail_tree.specs.Changing.{hierarchy}
use Rattle.mail_tree.specs.Folders.{nid}
use Rattle.mail_tree.specs.Names.{AreNames}
use Rattle.mail_tree.specs.Found.{StandsBelow}
use Rattle.mail_tree.specs.Places.{ROOT, find_place, is_plain, is_plain_sort, place_id}
use Rattle.mail_tree.specs.Whole.{kind_of_sort}
use Rattle.mail_tree.specs.declared.places.FolderPlace.{FolderPlace}
use Rattle.mail_tree.specs.declared.places.Sort.{Sort}
use Rattle.mail_tree.specs.declared.places.Sort.TheVariants.{Plain, Foreign}
use Rattle.mail_tree.proofs.KeyedFinds.{find-put_other, find-put_same}
use Rattle.node_port.specs.Nodes.{Nodes}
use Rattle.node_port.specs.declared.node.NodeRec.{NodeRec}
use Rattle.tree_look.specs.Faults.{IsOpened, IsReached}
use Rattle.mail_tree.specs.Standing.{HasContext, HasTable, HasTables, HasTree, IsListed, ListsFolder, names_sort}
use Rattle.tree_look.specs.Walk.{Awaits, Checked, Comes, Follows, IsClosed, IsPart, Suits, parent_of}
use Rattle.tree_look.proofs.Found.{below_kept, is_reached, names_kind, one_table_at}

-- where the folder of a row stands
abbrev pub stands : ℕ → ℕ → Sort → FolderPlace
stands row parent s = record { nid = nid row; parent = nid parent; sort = s }

-- the row's folder wasn't found before
pub is_free : (N : Nodes) (above : Option Nid) (n row : ℕ) (c : Ctx) (places : List FolderPlace) → IsPart N places → Awaits above n row places → HasContext N row c → Suits above row c → find_place row places ≡ None
is_free N None n row c places part awaits has suits = rw awaits refl
is_free N (Some p) n row c places part awaits has suits = free (find_place row places) refl
  where
    free : (found : Option FolderPlace) → find_place row places ≡ found → find_place row places ≡ None
    free None e = e
    free (Some q) e =
        let other = part.contexts row q e in
        let same : other.1.0 ≡ has.0 = same_Some other.1.0 has.0 (sym other.1.1 ∙ has.1) in
        absurd (awaits.4 q e (sym (other.2 suits.0) ∙ ((other.1.2).parent ∙ (ap (λ (x : NodeRec). x.parent.bits) same ∙ (sym (has.2).parent ∙ suits.1)))) suits.0)

-- what was found before stands still
pub put_kept : (row parent : ℕ) (s : Sort) (places : List FolderPlace) → find_place row places ≡ None → (f : ℕ) (p : FolderPlace) → find_place f places ≡ Some p → find_place f (put_key place_id (stands row parent s) places) ≡ Some p
put_kept row parent s places free f p e = elim (cases_eq f row) [
  | inl same ↦ absurd (none-some p (sym free ∙ subst (λ k. find_place k places ≡ Some p) same e))
  | inr other ↦ find-put_other place_id f (stands row parent s) places other ∙ e
]

-- what is there after a folder was put
pub put_found : (row parent : ℕ) (s : Sort) (places : List FolderPlace) (f : ℕ) (p : FolderPlace) → find_place f (put_key place_id (stands row parent s) places) ≡ Some p → ((f ≡ row) × (stands row parent s ≡ p)) ⊎ (find_place f places ≡ Some p)
put_found row parent s places f p e = elim (cases_eq f row) [
  | inl same ↦ inl (same, same_Some (stands row parent s) p (sym (find-put_same place_id (stands row parent s) places) ∙ subst (λ k. find_place k (put_key place_id (stands row parent s) places) ≡ Some p) same e))
  | inr other ↦ inr (sym (find-put_other place_id f (stands row parent s) places other) ∙ e)
]

pub put_below : (N : Nodes) (above : Option Nid) (n row : ℕ) (s : Sort) (c : Ctx) (places : List FolderPlace) → Comes N above n row → Awaits above n row places → Suits above row c → find_place row places ≡ None
    → StandsBelow (put_key place_id (stands row (parent_of above) s) places) n row
put_below N None n row s c places is waits suits free = subst (λ k. StandsBelow (put_key place_id (stands row ROOT s) places) k row) (sym is.0) is.1
put_below N (Some p) n row s c places is waits suits free =
    let P' = put_key place_id (stands row p.bits s) places in
    subst (λ k. StandsBelow (put_key place_id (stands row p.bits s) places) k row) (sym waits.1)
    (suits.0, (stands row p.bits s, find-put_same place_id (stands row p.bits s) places, below_kept places (put_key place_id (stands row p.bits s) places) (put_kept row p.bits s places free) waits.0 p.bits waits.2))

-- one folder more
pub put_part : (N : Nodes) (above : Option Nid) (n row : ℕ) (s : Sort) (c : Ctx) (places : List FolderPlace) → IsPart N places → Comes N above n row → Awaits above n row places → n ≤ 64 → names_sort N row ≡ Some s → HasContext N row c → Suits above row c
    → find_place row places ≡ None → IsPart N (put_key place_id (stands row (parent_of above) s) places)
put_part N above n row s c places part comes awaits deep named has suits free = record {
  ascend = put-ascends place_id 0 (stands row (parent_of above) s) places (omega arith) part.ascend;
  kinds = λ f p e. ⊎_elim (λ new. subst (λ (q : FolderPlace). f % 32 ≡ kind_of_sort q.sort) new.1 (subst (λ k. k % 32 ≡ kind_of_sort s) (sym new.0) (names_kind N row s named))) (part.kinds f p) (put_found row (parent_of above) s places f p e);
  contexts = λ f p e. ⊎_elim
      (λ new. (c, subst (λ k. HasContext N k c) (sym new.0) has, λ other. subst (λ (q : FolderPlace). c.parent ≡ q.parent.bits) new.1 (parent above comes suits (λ root. other (new.0 ∙ root)))))
      (part.contexts f p) (put_found row (parent_of above) s places f p e);
  parents = λ f p e other. ⊎_elim
      (λ new. subst (λ (q : FolderPlace). (r : FolderPlace) × (find_place q.parent.bits P' ≡ Some r) × (is_plain r ≡ true) × ListsFolder N q.parent.bits f) new.1
      (subst (λ k. (r : FolderPlace) × (find_place (parent_of above) P' ≡ Some r) × (is_plain r ≡ true) × ListsFolder N (parent_of above) k) (sym new.0) (lists above comes awaits (λ root. other (new.0 ∙ root)))))
      (λ old. let has' = part.parents f p old other in (has'.0, kept p.parent.bits has'.0 has'.1, has'.2, has'.3)) (put_found row (parent_of above) s places f p e);
  reached = λ f p e. ⊎_elim
      (λ new. (n, deep, subst (λ k. StandsBelow P' n k) (sym new.0) (put_below N above n row s c places comes awaits suits free)))
      (λ old. let at = part.reached f p old in (at.0, at.1, below_kept places P' kept at.0 f at.2)) (put_found row (parent_of above) s places f p e);
}
  where
    P' : List FolderPlace
    P' = put_key place_id (stands row (parent_of above) s) places

    kept : (f : ℕ) (p : FolderPlace) → find_place f places ≡ Some p → find_place f P' ≡ Some p
    kept = put_kept row (parent_of above) s places free

    parent : (a : Option Nid) → Comes N a n row → Suits a row c → (row ≡ ROOT → ⊥) → c.parent ≡ parent_of a
    parent None is suits' other = absurd (other is.1)
    parent (Some p) is suits' other = suits'.1

    lists : (a : Option Nid) → Comes N a n row → Awaits a n row places → (row ≡ ROOT → ⊥) → (r : FolderPlace) × (find_place (parent_of a) P' ≡ Some r) × (is_plain r ≡ true) × ListsFolder N (parent_of a) row
    lists None is waits other = absurd (other is.1)
    lists (Some p) is waits other = (waits.3.0, kept p.bits waits.3.0 waits.3.1, waits.3.2, is.4)

-- what wasn't found isn't among fewer
pub none_before : (old new : List FolderPlace) → ((f : ℕ) (p : FolderPlace) → find_place f old ≡ Some p → find_place f new ≡ Some p) → (f : ℕ) → find_place f new ≡ None → find_place f old ≡ None
none_before old new kept f none = before (find_place f old) refl
  where
    before : (found : Option FolderPlace) → find_place f old ≡ found → find_place f old ≡ None
    before None e = e
    before (Some q) e = absurd (none-some q (sym none ∙ kept f q e))

-- ---- the rows of a table, as ids

abbrev pub ids_of : List (ℕ × List Val) → List Nid
ids_of rows = map (λ r. nid r.0) rows

abbrev pub id_at : List Nid → ℕ → ℕ
id_at ids i = (get_or ids i (nid 0)).bits

pub named_row : (rows : List (ℕ × List Val)) (i : ℕ) → i < length (ids_of rows) → IsSome (find_row (id_at (ids_of rows) i) rows)
named_row [] i h = absurd (omega arith)
named_row (x ∷ xs) zero h = rw (eq-eqb x.0 x.0 refl) refl
named_row (x ∷ xs) (suc i) h = elim (cases_Bool (x.0 == id_at (ids_of xs) i)) [ inl t ↦ rw t refl | inr t ↦ rw t (named_row xs i (omega arith)) ]

pub row_index : (rows : List (ℕ × List Val)) (r : ℕ) → IsSome (find_row r rows) → (j : ℕ) × (j < length (ids_of rows)) × (id_at (ids_of rows) j ≡ r)
row_index [] r none = absurd (no_row none)
  where
    no_row : IsSome (find_row r []) → ⊥
    no_row never = cc
row_index (x ∷ xs) r row = elim (cases_Bool (x.0 == r)) [
  | inl t ↦ (0, omega arith, eqb-true x.0 r t)
  | inr f ↦ let more = row_index xs r (rw f at row) in (suc more.0, omega (arith, more.1), more.2)
]

at_least : (low : ℕ) (rows : List (ℕ × List Val)) → keys_ascend (λ r. r.0) low rows ≡ true → (i : ℕ) → i < length (ids_of rows) → low ≤ id_at (ids_of rows) i
at_least low [] asc i h = absurd (omega arith)
at_least low (x ∷ xs) asc zero h = leb-true low x.0 (and_parts (nat_le low x.0) (keys_ascend (λ r. r.0) (suc x.0) xs) asc).0
at_least low (x ∷ xs) asc (suc i) h =
    let p = and_parts (nat_le low x.0) (keys_ascend (λ r. r.0) (suc x.0) xs) asc in
    omega (arith, at_least (suc x.0) xs p.1 i (omega arith), leb-true low x.0 p.0)

pub ids_rise : (low : ℕ) (rows : List (ℕ × List Val)) → keys_ascend (λ r. r.0) low rows ≡ true → (j i : ℕ) → j < i → i < length (ids_of rows) → id_at (ids_of rows) j < id_at (ids_of rows) i
ids_rise low [] asc j i lt h = absurd (omega arith)
ids_rise low (x ∷ xs) asc zero zero lt h = absurd (omega arith)
ids_rise low (x ∷ xs) asc (suc j) zero lt h = absurd (omega arith)
ids_rise low (x ∷ xs) asc zero (suc i) lt h =
    let p = and_parts (nat_le low x.0) (keys_ascend (λ r. r.0) (suc x.0) xs) asc in
    omega (arith, at_least (suc x.0) xs p.1 i (omega arith))
ids_rise low (x ∷ xs) asc (suc j) (suc i) lt h =
    let p = and_parts (nat_le low x.0) (keys_ascend (λ r. r.0) (suc x.0) xs) asc in
    ids_rise (suc x.0) xs p.1 j i (omega arith) (omega arith)

-- ---- the folders in a folder

-- a plain folder was found, and none in it
pub record Begins (N : Nodes) (row n : ℕ) (at0 : List FolderPlace) (ids : List Nid) : Type 0 where
  pub part : IsPart N at0
  pub reached : IsReached N n row
  pub kind : row % 32 ≡ 2
  pub below : StandsBelow at0 n row
  pub placed : (q : FolderPlace) × (find_place row at0 ≡ Some q) × (is_plain q ≡ true)
  pub own : (g : ℕ) (p : FolderPlace) → find_place g at0 ≡ Some p → p.parent.bits ≡ row → (g ≡ ROOT → ⊥) → ⊥
  pub table : (t : Tbl) × HasTable N (hierarchy row) t × (keys_ascend (λ r. r.0) 0 t.table.rows ≡ true) × (ids ≡ ids_of t.table.rows)

-- the rows before i were followed
pub record ToChild (N : Nodes) (f : ℕ) (at0 places : List FolderPlace) (ids : List Nid) (i : ℕ) : Type 0 where
  pub part : IsPart N places
  pub kept : (g : ℕ) (p : FolderPlace) → find_place g at0 ≡ Some p → find_place g places ≡ Some p
  pub closed : (g : ℕ) (p : FolderPlace) → find_place g places ≡ Some p → is_plain p ≡ true → (find_place g at0 ≡ Some p) ⊎ IsClosed N places g
  pub news : (g : ℕ) (p : FolderPlace) → find_place g places ≡ Some p
      → (find_place g at0 ≡ Some p) ⊎ (((j : ℕ) × (j < i) × (id_at ids j ≡ g)) × (p.parent.bits ≡ f)) ⊎ (find_place p.parent.bits at0 ≡ None)
  pub lists : (j : ℕ) → j < i → IsListed N places f (id_at ids j)

pub comes_next : {N : Nodes} {f n : ℕ} {at0 : List FolderPlace} {ids : List Nid} (i : ℕ) → Begins N f n at0 ids → i < length ids → Comes N (Some (nid f)) (suc n) (id_at ids i)
comes_next {N} {f} {n} {at0} {ids} i begins h =
    let t = begins.table in
    (n, refl, begins.reached, begins.kind, (t.0, t.1, subst (λ k. IsSome (find_row (id_at k i) (t.0).table.rows)) (sym t.3) (named_row (t.0).table.rows i (subst (λ k. i < length k) t.3 h))))

pub awaits_next : {N : Nodes} {f n : ℕ} {at0 places : List FolderPlace} {ids : List Nid} (i : ℕ) → Begins N f n at0 ids → ToChild N f at0 places ids i → i < length ids → Awaits (Some (nid f)) (suc n) (id_at ids i) places
awaits_next {N} {f} {n} {at0} {places} {ids} i begins so_far h = (
  n,
  refl,
  below_kept at0 places so_far.kept n f begins.below,
  (begins.placed.0, so_far.kept f begins.placed.0 begins.placed.1, begins.placed.2),
  λ q e in_f other. ⊎_elim (λ old. begins.own (id_at ids i) q old in_f other)
      (λ more. ⊎_elim (λ mine. let lt : id_at ids mine.0.0 < id_at ids i = rises mine.0.0 mine.0.1 in absurd (omega (arith, lt, mine.0.2)))
      (λ none. none-some begins.placed.0 (sym (subst (λ k. find_place k at0 ≡ None) in_f none) ∙ begins.placed.1)) more)
      (so_far.news (id_at ids i) q e),
)
  where
    rises : (j : ℕ) → j < i → id_at ids j < id_at ids i
    rises j lt = let t = begins.table in subst (λ k. id_at k j < id_at k i) (sym t.3) (ids_rise 0 (t.0).table.rows t.2 j i lt (subst (λ k. i < length k) t.3 h))

listed_still : (N : Nodes) (f r : ℕ) (old new : List FolderPlace) → ((g : ℕ) (p : FolderPlace) → find_place g old ≡ Some p → find_place g new ≡ Some p) → IsListed N old f r → IsListed N new f r
listed_still N f r old new kept lists = λ s named. let is = lists s named in (is.0, kept _ _ is.1)

closed_still : (N : Nodes) (f : ℕ) (old new : List FolderPlace) → ((g : ℕ) (p : FolderPlace) → find_place g old ≡ Some p → find_place g new ≡ Some p) → IsClosed N old f → IsClosed N new f
closed_still N f old new kept closed = record { tables = closed.tables; listed = λ r lists. listed_still N f r old new kept (closed.listed r lists) }

pub next_child : {N : Nodes} {f : ℕ} {at0 places new : List FolderPlace} {ids : List Nid} (i : ℕ) → ToChild N f at0 places ids i → Follows N (Some (nid f)) (id_at ids i) places new → ToChild N f at0 new ids (i + 1)
next_child {N} {f} {at0} {places} {new} {ids} i so_far follows = record {
  part = follows.part;
  kept = λ g p e. follows.kept g p (so_far.kept g p e);
  closed = λ g p e plain. ⊎_elim (λ old. ⊎_elim inl (λ closed. inr (closed_still N g places new follows.kept closed)) (so_far.closed g p old plain)) inr (follows.closed g p e plain);
  news = λ g p e. ⊎_elim
      (λ old. ⊎_elim inl (λ more. ⊎_elim (λ mine. inr (inl ((mine.0.0, omega (arith, mine.0.1), mine.0.2), mine.1))) (λ none. inr (inr none)) more) (so_far.news g p old))
      (λ more. ⊎_elim (λ mine. inr (inl ((i, omega arith, sym mine.0), mine.1))) (λ none. inr (inr (none_before at0 places so_far.kept p.parent.bits none))) more) (follows.news g p e);
  lists = λ j lt. elim (cases_lt j i) [
    | inl less ↦ listed_still N f (id_at ids j) places new follows.kept (so_far.lists j less)
    | inr more ↦ let same : i ≡ j = omega (arith, lt, more) in subst (λ k. IsListed N new f (id_at ids k)) same (λ s named. (follows.other (nid f) refl s named, follows.is s named))
  ];
}

-- all rows were followed
pub last_child : {N : Nodes} {n row : ℕ} {old places : List FolderPlace} {ids : List Nid} (above : Option Nid) (c : Ctx) (i : ℕ) → Begins N row n (put_key place_id (stands row (parent_of above) Plain) old) ids
    → ToChild N row (put_key place_id (stands row (parent_of above) Plain) old) places ids i → length ids ≤ i → find_place row old ≡ None → HasTables N row → names_sort N row ≡ Some Plain → Suits above row c → Follows N above row old places
last_child {N} {n} {row} {old} {places} {ids} above c i begins so_far all free tables named suits = record {
  part = so_far.part;
  kept = λ g p e. so_far.kept g p (put_kept row (parent_of above) Plain old free g p e);
  closed = λ g p e plain. ⊎_elim (λ at. ⊎_elim (λ new. inr (subst (λ k. IsClosed N places k) (sym new.0) closed)) inl (put_found row (parent_of above) Plain old g p at)) inr (so_far.closed g p e plain);
  news = λ g p e. ⊎_elim
      (λ at. ⊎_elim (λ new. inr (inl (new.0, sym (ap (λ (q : FolderPlace). q.parent.bits) new.1)))) inl (put_found row (parent_of above) Plain old g p at))
      (λ more. ⊎_elim (λ mine. inr (inr (subst (λ k. find_place k old ≡ None) (sym mine.1) free)))
      (λ none. inr (inr (none_before old (put_key place_id (stands row (parent_of above) Plain) old) (put_kept row (parent_of above) Plain old free) p.parent.bits none))) more) (so_far.news g p e);
  is = λ s named'. subst (λ x. find_place row places ≡ Some (stands row (parent_of above) x)) (same_Some Plain s (sym named ∙ named'))
      (so_far.kept row (stands row (parent_of above) Plain) (find-put_same place_id (stands row (parent_of above) Plain) old));
  other = λ p e s named' root. not_root above suits p e root;
}
  where
    not_root : (a : Option Nid) → Suits a row c → (p : Nid) → a ≡ Some p → row ≡ ROOT → ⊥
    not_root None suits' p e root = none-some p e
    not_root (Some q) suits' p e root = suits'.0 root

    closed : IsClosed N places row
    closed = record {
      tables = tables;
      listed = λ r lists.
          let t = begins.table in
          let same : lists.0 ≡ t.0 = one_table_at N (hierarchy row) lists.0 t.0 lists.1 t.1 in
          let at = row_index (t.0).table.rows r (subst (λ (x : Tbl). IsSome (find_row r x.table.rows)) same lists.2) in
          let lt : at.0 < length ids = subst (λ k. at.0 < length k) (sym t.3) at.1 in
          subst (λ k. IsListed N places row k) (subst (λ k. id_at k at.0 ≡ r) (sym t.3) at.2) (so_far.lists at.0 (omega (arith, lt, all)));
    }

-- a search folder
pub follows_foreign : (N : Nodes) (above : Option Nid) (row : ℕ) (c : Ctx) (old : List FolderPlace) → IsPart N (put_key place_id (stands row (parent_of above) Foreign) old) → find_place row old ≡ None → names_sort N row ≡ Some Foreign → Suits above row c
    → Follows N above row old (put_key place_id (stands row (parent_of above) Foreign) old)
follows_foreign N above row c old part free named suits = record {
  part = part;
  kept = put_kept row (parent_of above) Foreign old free;
  closed = λ g p e plain. ⊎_elim (λ new. absurd (never (subst (λ (q : FolderPlace). is_plain q ≡ true) (sym new.1) plain))) inl (put_found row (parent_of above) Foreign old g p e);
  news = λ g p e. ⊎_elim (λ new. inr (inl (new.0, sym (ap (λ (q : FolderPlace). q.parent.bits) new.1)))) inl (put_found row (parent_of above) Foreign old g p e);
  is = λ s named'. subst (λ x. find_place row (put_key place_id (stands row (parent_of above) Foreign) old) ≡ Some (stands row (parent_of above) x)) (same_Some Foreign s (sym named ∙ named'))
      (find-put_same place_id (stands row (parent_of above) Foreign) old);
  other = λ p e s named' root. not_root above suits p e root;
}
  where
    never : false ≡ true → ⊥
    never e = cc

    not_root : (a : Option Nid) → Suits a row c → (p : Nid) → a ≡ Some p → row ≡ ROOT → ⊥
    not_root None suits' p e root = none-some p e
    not_root (Some q) suits' p e root = suits'.0 root

-- where a plain folder was put, its rows come next
pub begins : (N : Nodes) (above : Option Nid) (n row : ℕ) (c : Ctx) (old : List FolderPlace) (ids : List Nid) → IsPart N old → Comes N above n row → Awaits above n row old → n ≤ 64 → names_sort N row ≡ Some Plain → HasContext N row c → Suits above row c
    → (t : Tbl) × HasTable N (hierarchy row) t × (keys_ascend (λ r. r.0) 0 t.table.rows ≡ true) × (ids ≡ ids_of t.table.rows) → IsReached N n row → Begins N row n (put_key place_id (stands row (parent_of above) Plain) old) ids
begins N above n row c old ids part comes awaits deep named has suits table reached =
    let free = is_free N above n row c old part awaits has suits in
    let part' = put_part N above n row Plain c old part comes awaits deep named has suits free in
    let here = find-put_same place_id (stands row (parent_of above) Plain) old in
    record {
      part = part';
      reached = reached;
      kind = names_kind N row Plain named;
      below = put_below N above n row Plain c old comes awaits suits free;
      placed = (stands row (parent_of above) Plain, here, refl);
      own = λ g p e in_row other. ⊎_elim
          (λ new. self above comes awaits (λ root. other (new.0 ∙ root)) (ap (λ (q : FolderPlace). q.parent.bits) new.1 ∙ in_row) free)
          (λ was. let up = part.parents g p was other in none-some up.0 (sym (subst (λ k. find_place k old ≡ None) (sym in_row) free) ∙ up.1)) (put_found row (parent_of above) Plain old g p e);
      table = table;
    }
  where
    self : (a : Option Nid) → Comes N a n row → Awaits a n row old → (row ≡ ROOT → ⊥) → parent_of a ≡ row → find_place row old ≡ None → ⊥
    self None is waits other e free = other is.1
    self (Some p) is waits other e free = none-some waits.3.0 (sym (subst (λ k. find_place k old ≡ None) (sym e) free) ∙ waits.3.1)

-- all folders were found
pub has_tree : (N : Nodes) (places : List FolderPlace) → ((c : Ctx) × HasContext N 0x21 c) → ((c : Ctx) × HasContext N 0x61 c × AreNames c.props) → Follows N None ROOT [] places → HasTree N places
has_tree N places store names follows = record {
  store = store;
  names = names;
  ascend = follows.part.ascend;
  root = follows.is Plain refl;
  kinds = follows.part.kinds;
  contexts = follows.part.contexts;
  tables = λ f p e plain. (closed f p e plain).tables;
  parents = follows.part.parents;
  listed = λ f p r e plain lists. (closed f p e plain).listed r lists;
  reached = follows.part.reached;
}
  where
    closed : (f : ℕ) (p : FolderPlace) → find_place f places ≡ Some p → is_plain p ≡ true → IsClosed N places f
    closed f p e plain = ⊎_elim (λ none. absurd (none-some p none)) (λ c. c) (follows.closed f p e plain)

pub nothing_found : (N : Nodes) → IsPart N []
nothing_found N = record {
  ascend = refl;
  kinds = λ f p e. absurd (none-some p e);
  contexts = λ f p e. absurd (none-some p e);
  parents = λ f p e other. absurd (none-some p e);
  reached = λ f p e. absurd (none-some p e);
}

-- ---- what the walk's function knows after it has put a folder

pub put_is : (row parent : Nid) (b : ℕ) (s : Sort) (places new : List FolderPlace) → parent.bits ≡ b → new ≡ put_key place_id (record { nid = row; parent = parent; sort = s }) places → new ≡ put_key place_id (stands row.bits b s) places
put_is row parent b s places new same is = is ∙ ap (λ k. put_key place_id (record { nid = nid row.bits; parent = nid k; sort = s }) places) same

-- what is known of a row that names a folder
pub record Known (N : Nodes) (above : Option Nid) (n row : ℕ) (s : Sort) (places new : List FolderPlace) : Type 0 where
  pub part : IsPart N places
  pub comes : Comes N above n row
  pub awaits : Awaits above n row places
  pub deep : n ≤ 64
  pub named : names_sort N row ≡ Some s
  pub c : Ctx
  pub has : HasContext N row c
  pub suits : Suits above row c
  pub put : new ≡ put_key place_id (stands row (parent_of above) s) places

pub known : (N : Nodes) (above : Option Nid) (n row left : ℕ) (found : Option Sort) (s : Sort) (places new : List FolderPlace) → IsPart N places → Comes N above n row → Awaits above n row places → n + left ≡ 65
    → (IsSome found → 0 < left) → found ≡ Some s → Checked N above row found → new ≡ put_key place_id (stands row (parent_of above) s) places → Known N above n row s places new
known N above n row left found s places new part comes awaits sum some is checked put =
    let ok : Checked N above row (Some s) = subst (Checked N above row) is checked in
    let more : 0 < left = some (rw is refl) in
    record { part = part; comes = comes; awaits = awaits; deep = omega (arith, sum, more); named = ok.0; c = ok.1.0; has = ok.1.1; suits = ok.1.2; put = put }

pub foreign_follows : (N : Nodes) (above : Option Nid) (n row : ℕ) (s : Sort) (places new : List FolderPlace) → Known N above n row s places new → is_plain_sort s ≡ false → Follows N above row places new
foreign_follows N above n row Plain places new k e = absurd (never e)
  where
    never : true ≡ false → ⊥
    never e = cc
foreign_follows N above n row Foreign places new k e =
    let free = is_free N above n row k.c places k.part k.awaits k.has k.suits in
    subst (λ x. Follows N above row places x) (sym k.put)
    (follows_foreign N above row k.c places (put_part N above n row Foreign k.c places k.part k.comes k.awaits k.deep k.named k.has k.suits free) free k.named k.suits)

pub plain_opened : (N : Nodes) (above : Option Nid) (n row : ℕ) (s : Sort) (places new : List FolderPlace) → Known N above n row s places new → is_plain_sort s ≡ true → IsOpened N row
plain_opened N above n row Plain places new k e = (n, is_reached N above n row Plain k.comes k.named, names_kind N row Plain k.named)
plain_opened N above n row Foreign places new k e = absurd (never e)
  where
    never : false ≡ true → ⊥
    never e = cc

pub plain_begins : (N : Nodes) (above : Option Nid) (n row : ℕ) (s : Sort) (places new : List FolderPlace) (ids : List Nid) → Known N above n row s places new → is_plain_sort s ≡ true
    → (t : Tbl) × HasTable N (hierarchy row) t × (keys_ascend (λ r. r.0) 0 t.table.rows ≡ true) × (ids ≡ ids_of t.table.rows) → Begins N row n new ids
plain_begins N above n row Plain places new ids k e table =
    subst (λ x. Begins N row n x ids) (sym k.put) (begins N above n row k.c places ids k.part k.comes k.awaits k.deep k.named k.has k.suits table (is_reached N above n row Plain k.comes k.named))
plain_begins N above n row Foreign places new ids k e table = absurd (never e)
  where
    never : false ≡ true → ⊥
    never e = cc

pub plain_follows : (N : Nodes) (above : Option Nid) (n row : ℕ) (s : Sort) (places new last : List FolderPlace) (ids : List Nid) (i : ℕ) → Known N above n row s places new → is_plain_sort s ≡ true → HasTables N row
    → Begins N row n new ids → ToChild N row new last ids i → length ids ≤ i → Follows N above row places last
plain_follows N above n row Plain places new last ids i k e tables begin so_far all =
    last_child above k.c i (subst (λ x. Begins N row n x ids) k.put begin) (subst (λ x. ToChild N row x last ids i) k.put so_far) all
    (is_free N above n row k.c places k.part k.awaits k.has k.suits) tables k.named k.suits
plain_follows N above n row Foreign places new last ids i k e tables begin so_far all = absurd (never e)
  where
    never : false ≡ true → ⊥
    never e = cc
