-- The ids of what belongs to the store, and the object at each.
use Rattle.std.proofs.Common.{◌≡◌, ◌⊎◌, inl, inr, ◌∙◌, ℕ, ◌%◌, ◌==◌, true, List, [], ◌∷◌, filter, map, Some, IsSome, is_some, arith, refl, sym, subst, ap}
use Rattle.std.proofs.lemmas.Bool.{and_from, cases_Bool, eq-eqb, eqb-true, false≢true, or_left, or_right}
use Rattle.std.proofs.lemmas.Option.{none-some, same_Some}
use Rattle.mapi_values.specs.Messages.{Mes}
use Rattle.mapi_values.specs.Tables.{find_row}
use Rattle.mapi_values.specs.Values.{Val}
use Rattle.mail_objects.specs.Forms.{Ctx, Tbl}
use Rattle.mail_objects.specs.Objects.{ShowsBare, ShowsContext, ShowsMail, ShowsObject, ShowsTable}
use Rattle.mail_objects.specs.declared.object.Object.{Object}
use Rattle.mail_objects.specs.declared.object.Object.TheVariants.{Context, Table, Message}
use Rattle.mail_objects.proofs.OneLaws.{one-context, one-mail, one-table}
use Rattle.node_port.specs.Nodes.{Nodes, node_at}
use Rattle.node_port.specs.declared.node.NodeRec.{NodeRec}
use Rattle.pst_base.specs.declared.ids.Nid.{Nid}
use Rattle.mail_tree.specs.declared.places.FolderPlace.{FolderPlace}
use Rattle.mail_tree.specs.Changing.{associated, contents, hierarchy}
use Rattle.mail_tree.specs.Places.{find_place, is_plain, place_id}
use Rattle.mail_tree.specs.Settling.{is_message_row, message_ids}
use Rattle.mail_tree.specs.Standing.{HasContext, HasMail, HasTable, HasTree, ListsMessage}
use Rattle.mail_tree.specs.Whole.{fits_id}
use Rattle.mail_tree.proofs.FineLaws.{cases_Option}
use Rattle.mail_tree.proofs.KindsOfPuts.{beside_kind, folder_fits}
use Rattle.mail_tree.proofs.Nearly.{folder_kind}
use Rattle.tree_look.specs.Shows.{IsFixed, IsBeside, IsOwned, IsPlainIn}
use Rattle.tree_look.proofs.Ids.{IsIn, Lists, each, either, like, nothing, one}

-- the node at an id is at most one object of a form
pub one_context_at : (N : Nodes) (q : ℕ) (a b : Ctx) → HasContext N q a → HasContext N q b → a ≡ b
one_context_at N q a b s t = one-context t.0 a b (subst (λ (n : NodeRec). ShowsContext n a) (same_Some s.0 t.0 (sym s.1 ∙ t.1)) s.2) t.2

pub one_table_at : (N : Nodes) (q : ℕ) (a b : Tbl) → HasTable N q a → HasTable N q b → a ≡ b
one_table_at N q a b s t = one-table t.0 a b (subst (λ (n : NodeRec). ShowsTable n a) (same_Some s.0 t.0 (sym s.1 ∙ t.1)) s.2) t.2

pub one_mail_at : (N : Nodes) (q : ℕ) (a b : Mes) → HasMail N q a → HasMail N q b → a ≡ b
one_mail_at N q a b s t = one-mail q t.0 a b (subst (λ (n : NodeRec). ShowsMail q n a) (same_Some s.0 t.0 (sym s.1 ∙ t.1)) s.2) t.2

pub one_bare_at : (N : Nodes) (q : ℕ) (a b : Nid) → (node : NodeRec) × (node_at N q ≡ Some node) × ShowsBare node a → (node : NodeRec) × (node_at N q ≡ Some node) × ShowsBare node b → a ≡ b
one_bare_at N q a b s t = sym s.2.parent ∙ ap (λ (n : NodeRec). n.parent) (same_Some s.0 t.0 (sym s.1 ∙ t.1)) ∙ t.2.parent

-- the ids of rows of messages are those that rows of messages have
row_is : (q : ℕ) (rows : List (ℕ × List Val)) → IsIn q (map (λ r. r.0) (filter is_message_row rows)) → IsSome (find_row q rows) × (q % 32 ≡ 4)
row_is q [] is = absurd is
row_is q (r ∷ rs) is = elim (cases_Bool (r.0 % 32 == 4)) [
  | inl t ↦ first (row_is q rs) t (rw t at is)
  | inr t ↦ later (row_is q rs (rw t at is))
]
  where
    later : IsSome (find_row q rs) × (q % 32 ≡ 4) → IsSome (find_row q (r ∷ rs)) × (q % 32 ≡ 4)
    later x = (elim (cases_Bool (r.0 == q)) [ inl t ↦ rw t refl | inr t ↦ rw t x.0 ], x.1)

    first : (IsIn q (map (λ r. r.0) (filter is_message_row rs)) → IsSome (find_row q rs) × (q % 32 ≡ 4)) → (r.0 % 32 == 4) ≡ true → (q ≡ r.0) ⊎ IsIn q (map (λ r. r.0) (filter is_message_row rs))
        → IsSome (find_row q (r ∷ rs)) × (q % 32 ≡ 4)
    first more four (inl same) = (rw (eq-eqb r.0 q (sym same)) refl, ap (λ x. x % 32) same ∙ eqb-true (r.0 % 32) 4 four)
    first more four (inr rest) = later (more rest)

is_row : (q : ℕ) (rows : List (ℕ × List Val)) → IsSome (find_row q rows) → q % 32 ≡ 4 → IsIn q (map (λ r. r.0) (filter is_message_row rows))
is_row q [] is four = absurd (false≢true is)
is_row q (r ∷ rs) is four = elim (cases_Bool (r.0 == q)) [
  | inl t ↦ rw (eq-eqb (r.0 % 32) 4 (ap (λ x. x % 32) (eqb-true r.0 q t) ∙ four)) (inl (sym (eqb-true r.0 q t)))
  | inr t ↦ elim (cases_Bool (r.0 % 32 == 4)) [
    | inl k ↦ rw k (inr (is_row q rs (rw t at is) four))
    | inr k ↦ rw k (is_row q rs (rw t at is) four)
  ]
]

messages : (N : Nodes) (f : ℕ) → (t : Tbl) × HasTable N (contents f) t → Lists (ListsMessage N f)
messages N f t = record {
  ids = message_ids t.0.table;
  are = λ q is. let row = row_is q t.0.table.rows is in (t.0, t.1, row.0, row.1);
  all = λ q x. is_row q t.0.table.rows (subst (λ (u : Tbl). IsSome (find_row q u.table.rows)) (one_table_at N (contents f) x.0 t.0 x.1 t.1) x.2) x.3;
}

-- an id, if a node stands there
there : (N : Nodes) (k : ℕ) → Lists (λ q. (q ≡ k) × IsSome (node_at N q))
there N k = elim (cases_Option (node_at N k)) [
  | inl none ↦ nothing (λ q. (q ≡ k) × IsSome (node_at N q)) (λ q x. false≢true (sym (ap is_some (ap (node_at N) x.0 ∙ none)) ∙ x.1))
  | inr is ↦ like (λ q. q ≡ k) (λ q. (q ≡ k) × IsSome (node_at N q)) (λ q same. (same, subst IsSome (sym (ap (node_at N) same ∙ is.1)) refl)) (λ q x. x.0) (one k)
]

-- the ids of places
placed_is : (f : ℕ) (places : List FolderPlace) → IsIn f (map place_id places) → IsSome (find_place f places)
placed_is f [] is = absurd is
placed_is f (p ∷ ps) (inl same) = rw (eq-eqb (place_id p) f (sym same)) refl
placed_is f (p ∷ ps) (inr rest) = elim (cases_Bool (place_id p == f)) [ inl t ↦ rw t refl | inr t ↦ rw t (placed_is f ps rest) ]

is_placed : (f : ℕ) (places : List FolderPlace) → IsSome (find_place f places) → IsIn f (map place_id places)
is_placed f [] is = absurd (false≢true is)
is_placed f (p ∷ ps) is = elim (cases_Bool (place_id p == f)) [ inl t ↦ inl (sym (eqb-true (place_id p) f t)) | inr t ↦ inr (is_placed f ps (rw t at is)) ]

-- a table's id
table_fits : (q : ℕ) (t : Tbl) → (q % 32 ≡ 13) ⊎ ((q % 32 ≡ 14) ⊎ (q % 32 ≡ 15)) → fits_id q (Table t) ≡ true
table_fits q t (inl k) = or_left (q % 32 == 13) _ (eq-eqb (q % 32) 13 k)
table_fits q t (inr (inl k)) = or_right (q % 32 == 13) _ (or_left (q % 32 == 14) _ (eq-eqb (q % 32) 14 k))
table_fits q t (inr (inr k)) = or_right (q % 32 == 13) _ (or_right (q % 32 == 14) _ (or_left (q % 32 == 15) _ (eq-eqb (q % 32) 15 k)))

-- the node at the id is this object, which may stand there
abbrev pub IsAt : Nodes → ℕ → Object → Type 0
IsAt N q o = ((node : NodeRec) × (node_at N q ≡ Some node) × ShowsObject q node o) × (fits_id q o ≡ true)

module _ (N : Nodes) (places : List FolderPlace) (h : HasTree N places) where
  beside : (f : ℕ) (p : FolderPlace) → find_place f places ≡ Some p → is_plain p ≡ true → Lists (IsBeside N f)
  beside f p e plain =
      either (λ q. q ≡ hierarchy f) (λ q. (q ≡ contents f) ⊎ (((q ≡ associated f) × IsSome (node_at N q)) ⊎ ListsMessage N f q)) (one (hierarchy f))
      (either (λ q. q ≡ contents f) (λ q. ((q ≡ associated f) × IsSome (node_at N q)) ⊎ ListsMessage N f q) (one (contents f))
      (either (λ q. (q ≡ associated f) × IsSome (node_at N q)) (ListsMessage N f) (there N (associated f)) (messages N f (h.tables f p e plain).messages)))

  plain_beside : (f : ℕ) → Lists (λ q. IsPlainIn places f × IsBeside N f q)
  plain_beside f = elim (cases_Option (find_place f places)) [
    | inl none ↦ nothing (λ q. IsPlainIn places f × IsBeside N f q) (λ q x. none-some x.0.0 (sym none ∙ x.0.1))
    | inr p ↦ elim (cases_Bool (is_plain p.0)) [
      | inl plain ↦ like (IsBeside N f) (λ q. IsPlainIn places f × IsBeside N f q) (λ q x. ((p.0, p.1, plain), x)) (λ q x. x.1) (beside f p.0 p.1 plain)
      | inr other ↦ nothing (λ q. IsPlainIn places f × IsBeside N f q)
          (λ q x. false≢true (sym other ∙ ap is_plain (same_Some p.0 x.0.0 (sym p.1 ∙ x.0.1)) ∙ x.0.2))
    ]
  ]

  pub owned : Lists (IsOwned N places)
  owned =
      either IsFixed (λ q. IsSome (find_place q places) ⊎ ((f : ℕ) × IsPlainIn places f × IsBeside N f q)) (either (λ q. q ≡ 0x21) (λ q. q ≡ 0x61) (one 0x21) (one 0x61))
      (either (λ q. IsSome (find_place q places)) (λ q. (f : ℕ) × IsPlainIn places f × IsBeside N f q)
      (record { ids = map place_id places; are = λ q is. placed_is q places is; all = λ q is. is_placed q places is })
      (like (λ q. (f : ℕ) × IsIn f (map place_id places) × (IsPlainIn places f × IsBeside N f q)) (λ q. (f : ℕ) × IsPlainIn places f × IsBeside N f q)
      (λ q x. (x.0, x.2.0, x.2.1)) (λ q x. (x.0, is_placed x.0 places (subst IsSome (sym x.1.1) refl), (x.1, x.2)))
      (each (λ f q. IsPlainIn places f × IsBeside N f q) (map place_id places) (λ f is. plain_beside f))))

  at_table : (q k kind : ℕ) (t : Tbl) → q ≡ k → k % 32 ≡ kind → (kind ≡ 13) ⊎ ((kind ≡ 14) ⊎ (kind ≡ 15)) → HasTable N k t → IsAt N q (Table t)
  at_table q k kind t same is kinds at =
      let own : q % 32 ≡ kind = ap (λ x. x % 32) same ∙ is in
      (subst (λ x. HasTable N x t) (sym same) at, table_fits q t (subst (λ x. (x ≡ 13) ⊎ ((x ≡ 14) ⊎ (x ≡ 15))) (sym own) kinds))

  at_message : (f q : ℕ) → IsPlainIn places f → ListsMessage N f q → (o : Object) × IsAt N q o
  at_message f q p x =
      let m = (h.tables f p.0 p.1 p.2).listed q x in
      (Message m.0, (m.1, and_from (q % 32 == 4) (m.0.nid == q) (eq-eqb (q % 32) 4 x.3) (eq-eqb m.0.nid q (m.1.2).message.id)))

  pub object_of : (q : ℕ) → IsOwned N places q → (o : Object) × IsAt N q o
  object_of q (inl (inl same)) = let c = h.store in (Context c.0, (subst (λ x. HasContext N x c.0) (sym same) c.1, subst (λ x. fits_id x (Context c.0) ≡ true) (sym same) refl))
  object_of q (inl (inr same)) = let c = h.names in (Context c.0, (subst (λ x. HasContext N x c.0) (sym same) c.1, subst (λ x. fits_id x (Context c.0) ≡ true) (sym same) refl))
  object_of q (inr (inl placed)) = elim (cases_Option (find_place q places)) [
    | inl none ↦ absurd (false≢true (sym (ap is_some none) ∙ placed))
    | inr p ↦ let c = h.contexts q p.0 p.1 in (Context c.0, (c.1, folder_fits q c.0 (folder_kind p.0.sort q (h.kinds q p.0 p.1))))
  ]
  object_of q (inr (inr (f, p, inl same))) = let t = (h.tables f p.0 p.1 p.2).folders in (Table t.0, at_table q (hierarchy f) 13 t.0 same (beside_kind f 13 (omega arith)) (inl refl) t.1)
  object_of q (inr (inr (f, p, inr (inl same)))) = let t = (h.tables f p.0 p.1 p.2).messages in (Table t.0, at_table q (contents f) 14 t.0 same (beside_kind f 14 (omega arith)) (inr (inl refl)) t.1)
  object_of q (inr (inr (f, p, inr (inr (inl x))))) = elim (h.tables f p.0 p.1 p.2).others [
    | inl none ↦ absurd (false≢true (sym (ap is_some (ap (node_at N) x.0 ∙ none)) ∙ x.1))
    | inr t ↦ (Table t.0, at_table q (associated f) 15 t.0 x.0 (beside_kind f 15 (omega arith)) (inr (inr refl)) t.1)
  ]
  object_of q (inr (inr (f, p, inr (inr (inr x))))) = at_message f q p x
