-- Nothing stands at the id of a new object.
use Rattle.std.proofs.Common.{◌≡◌, ℕ, zero, suc, ◌%◌, ◌≤◌, ◌<◌, Bool, false, min, max, nat_lt, get_or, List, [], ◌∷◌, Option, None, Some, is_some, arith, refl, ap, ◌∙◌, inl, inr}
use Rattle.std.specs.List.{list_any}
use Rattle.std.proofs.lemmas.Bool.{cases_Bool, cases_eq, ltb-false, or_parts}
use Rattle.node_port.specs.Nodes.{node_at}
use Rattle.pst_base.specs.Ids.{nid_of}
use Rattle.mail_tree.specs.Tree.{Tree, object_at}
use Rattle.mail_tree.specs.Changing.{associated, beside, contents, hierarchy, nothing, now_at}
use Rattle.mail_tree.proofs.AfterTree.{now_nothing}
use Rattle.mail_tree.specs.Ids.{LAST_INDEX, folder_kinds, greatest, is_spent, is_taken, is_used, message_kinds, new_id, next_index}

-- a number above the greatest that passes fails
pub above_fails : (test : ℕ → Bool) (n k : ℕ) → greatest test n < k → k ≤ n → test k ≡ false
unfolding greatest
above_fails test zero k more less = absurd (omega arith)
above_fails test (suc n) k more less = elim (cases_Bool (test (suc n))) [
  | inl t ↦ absurd (let top : suc n < k = (rw t at more) in omega arith)
  | inr t ↦ elim (cases_eq k (suc n)) [
    | inl same ↦ rw same t
    | inr other ↦ above_fails test n k (rw t at more) (omega arith)
  ]
]

-- the next index isn't used, where one is left
pub next_above : (counter g last : ℕ) → nat_lt last (suc (max counter g)) ≡ false → (g < suc (max counter g)) × (suc (max counter g) ≤ last)
next_above counter g last e = let le = ltb-false last (suc (max counter g)) e in (omega arith, le)

pub next_is_free : (T : Tree) (kind : ℕ) (kinds : List ℕ) → is_spent (next_index T kind kinds) ≡ false → (is_used T kinds (next_index T kind kinds) ≡ false) × (next_index T kind kinds ≤ LAST_INDEX)
unfolding next_index
next_is_free T kind kinds e =
    let p = next_above (get_or T.last kind 0) (greatest (is_used T kinds) LAST_INDEX) LAST_INDEX e in
    (above_fails (is_used T kinds) LAST_INDEX _ p.0 p.1, p.1)

pub new_id_is : (kind index : ℕ) → index ≤ LAST_INDEX → new_id kind index ≡ nid_of kind index
new_id_is kind index le = let m : min index LAST_INDEX ≡ index = omega arith in rw m refl

pub not_there : {A : Type 0} (o : Option A) → is_some o ≡ false → o ≡ None
not_there None e = refl
not_there (Some x) e = cc

pub free_message : (T : Tree) (index : ℕ) → is_used T message_kinds index ≡ false → object_at T (nid_of 4 index) ≡ None
free_message T index e = not_there (object_at T (nid_of 4 index)) (or_parts _ (is_some (node_at T.others (nid_of 4 index))) (or_parts (is_taken T (nid_of 4 index)) false e).0).0

pub free_folder : (T : Tree) (index : ℕ) → is_used T folder_kinds index ≡ false → object_at T (nid_of 2 index) ≡ None
free_folder T index e = not_there (object_at T (nid_of 2 index)) (or_parts _ (is_some (node_at T.others (nid_of 2 index))) (or_parts (is_taken T (nid_of 2 index)) (list_any (λ kind. is_taken T (nid_of kind index)) (0x0D ∷ 0x0E ∷ 0x0F ∷ [])) e).0).0

-- none of the ids of a folder's nodes is taken
four_free : (T : Tree) (index : ℕ) → is_used T folder_kinds index ≡ false
    → (is_taken T (nid_of 2 index) ≡ false) × (is_taken T (nid_of 13 index) ≡ false) × (is_taken T (nid_of 14 index) ≡ false) × (is_taken T (nid_of 15 index) ≡ false)
four_free T index e =
    let taken : ℕ → Bool = λ kind. is_taken T (nid_of kind index) in
    let a = or_parts (taken 0x02) (list_any taken (0x0D ∷ 0x0E ∷ 0x0F ∷ [])) e in
    let b = or_parts (taken 0x0D) (list_any taken (0x0E ∷ 0x0F ∷ [])) a.1 in
    let c = or_parts (taken 0x0E) (list_any taken (0x0F ∷ [])) b.1 in
    let d = or_parts (taken 0x0F) false c.1 in
    (a.0, b.0, c.0, d.0)

next_to : (index kind : ℕ) → beside (nid_of 2 index) kind ≡ nid_of kind index
next_to index kind = omega arith

-- nothing stands at the ids of a new folder
pub new_folder_id : (T : Tree) → is_spent (next_index T 2 folder_kinds) ≡ false → let f = new_id 2 (next_index T 2 folder_kinds) in
    (f % 32 ≡ 2) × (now_at T nothing f ≡ None) × (now_at T nothing (hierarchy f) ≡ None) × (now_at T nothing (contents f) ≡ None) × (now_at T nothing (associated f) ≡ None)
new_folder_id T left =
    let index = next_index T 2 folder_kinds in
    let free = next_is_free T 2 folder_kinds left in
    let id = new_id_is 2 index free.1 in
    let all = four_free T index free.0 in (
      ap (λ x. x % 32) id ∙ two index,
      gone (new_id 2 index) (nid_of 2 index) id all.0,
      gone (hierarchy (new_id 2 index)) (nid_of 13 index) (ap hierarchy id ∙ next_to index 13) all.1,
      gone (contents (new_id 2 index)) (nid_of 14 index) (ap contents id ∙ next_to index 14) all.2,
      gone (associated (new_id 2 index)) (nid_of 15 index) (ap associated id ∙ next_to index 15) all.3,
    )
  where
    two : (index : ℕ) → nid_of 2 index % 32 ≡ 2
    two index = omega arith

    gone : (q r : ℕ) → q ≡ r → is_taken T r ≡ false → now_at T nothing q ≡ None
    gone q r same free = ap (now_at T nothing) same ∙ ap (λ g. g r) (now_nothing T) ∙ not_there (object_at T r) (or_parts (is_some (object_at T r)) (is_some (node_at T.others r)) free).0

-- no other node stands beside a new folder
pub no_stray_beside : (T : Tree) → is_spent (next_index T 2 folder_kinds) ≡ false → node_at T.others (associated (new_id 2 (next_index T 2 folder_kinds))) ≡ None
no_stray_beside T left =
    let index = next_index T 2 folder_kinds in
    let free = next_is_free T 2 folder_kinds left in
    let q = nid_of 15 index in
    ap (λ x. node_at T.others (associated x)) (new_id_is 2 index free.1)
    ∙ ap (node_at T.others) (next_to index 15)
    ∙ not_there (node_at T.others q) (or_parts (is_some (object_at T q)) (is_some (node_at T.others q)) (four_free T index free.0).3).1
