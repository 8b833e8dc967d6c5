-- What settling a folder leaves: only its values and the table that lists it change, and no row comes.
use Rattle.std.proofs.Common.{◌≡◌, ℕ, ◌%◌, ◌==◌, true, List, length, Option, Some, IsSome, IfOk, arith, sym, subst, ap, ◌∙◌, ◌⊎◌, inl, inr}
use Rattle.std.specs.FinMap as map
use Rattle.std.specs.List.{list_any}
use Rattle.std.proofs.lemmas.Bool.{cases_Bool, cases_eq, eqb-false}
use Rattle.mapi_values.specs.Tables.{find_row, mirror}
use Rattle.mapi_values.specs.Values.{Val}
use Rattle.mail_objects.specs.Forms.{Ctx, Tbl}
use Rattle.mail_objects.specs.declared.object.Object.{Object}
use Rattle.mail_objects.specs.declared.object.Object.TheVariants.{Context, Table}
use Rattle.mail_tree.specs.declared.places.FolderPlace.{FolderPlace}
use Rattle.mail_tree.specs.Places.{ROOT, find_place, is_child, is_plain}
use Rattle.mail_tree.specs.Tree.{Tree}
use Rattle.mail_tree.specs.Values.{with_counts}
use Rattle.mail_tree.specs.Changing.{Changed, ◌>>=◌, add_shown, hierarchy, now_at, overfills, put_shown, shown_row, with_object, with_rows}
use Rattle.mail_tree.specs.Settling.{counted, message_ids, mirrored, settled, table_as_is, unread_among, with_context}
use Rattle.mail_tree.specs.Whole.{AreWhole}
use Rattle.mail_tree.proofs.AfterTree.{puts_object}
use Rattle.mail_tree.proofs.KeyedFinds.{find-put_other}
use Rattle.mail_tree.proofs.KindsOfPuts.{beside_kind, same_table}
use Rattle.mail_tree.proofs.Nearly.{Puts, nearly, plain_id}
use Rattle.mail_tree.proofs.Settles.{folders_of, messages_of}
use Rattle.mail_laws.proofs.FoundSteps.{get_other}
use Rattle.mail_laws.proofs.Keeping.{if_any, if_then, if_weaker}

-- the id is that of a plain folder's values, or of its table of folders
abbrev pub IsOfPlain : List FolderPlace → ℕ → Type 0
IsOfPlain places x = (f : ℕ) × ((p : FolderPlace) × (find_place f places ≡ Some p) × (is_plain p ≡ true)) × ((x ≡ f) ⊎ (x ≡ hierarchy f))

-- a table of folders has a row of this id
abbrev pub ListsRow : Option Object → ℕ → Type 0
ListsRow object r = (t : Tbl) × (object ≡ Some (Table t)) × IsSome (find_row r t.table.rows)

-- Only plain folders' values and tables of folders change, and no row comes to these but new ones.
pub record Follows (T : Tree) (places : List FolderPlace) (New : ℕ → ℕ → Type 0) (D D' : Changed) : Type 0 where
  pub gets : (k : ℕ) → (k % 32 ≡ 2 → ⊥) → (k % 32 ≡ 13 → ⊥) → map.get D'.objects k ≡ map.get D.objects k
  pub others : (x : ℕ) → (now_at T D' x ≡ now_at T D x) ⊎ IsOfPlain places x
  pub rows : (f r : ℕ) → ListsRow (now_at T D' (hierarchy f)) r → ListsRow (now_at T D (hierarchy f)) r ⊎ New f r

module _ (T : Tree) (places : List FolderPlace) (New : ℕ → ℕ → Type 0) where
  -- one after the other
  pub follows_then : (D D1 D2 : Changed) → Follows T places New D D1 → Follows T places New D1 D2 → Follows T places New D D2
  follows_then D D1 D2 a b = record {
    gets = λ k two table. b.gets k two table ∙ a.gets k two table;
    others = λ x. elim (b.others x) [ inl same ↦ elim (a.others x) [ inl before ↦ inl (same ∙ before) | inr of ↦ inr of ] | inr of ↦ inr of ];
    rows = λ f r has. elim (b.rows f r has) [ inl before ↦ a.rows f r before | inr new ↦ inr new ];
  }

  -- a plain folder gets other values
  values_follow : (D D' : Changed) (f : ℕ) (p : FolderPlace) (o : Option Object) → find_place f places ≡ Some p → is_plain p ≡ true → f % 32 ≡ 2 → Puts (now_at T D) (now_at T D') f o
      → ((k : ℕ) → (k ≡ f → ⊥) → map.get D'.objects k ≡ map.get D.objects k) → Follows T places New D D'
  values_follow D D' f p o e plain two puts gets = record {
    gets = λ k other table. gets k (λ same. other (ap (λ x. x % 32) same ∙ two));
    others = λ x. elim (cases_eq x f) [ inl same ↦ inr (f, (p, e, plain), inl same) | inr other ↦ inl (puts.others x other) ];
    rows = λ g r has. inl (subst (λ o. ListsRow o r) (puts.others (hierarchy g) (λ same. omega (arith, beside_kind g 13 (omega arith)))) has);
  }

  -- a plain folder's table of folders gets other rows
  pub rows_follow : (D : Changed) (f : ℕ) (p : FolderPlace) (t : Tbl) (rows : List (ℕ × List Val)) → find_place f places ≡ Some p → is_plain p ≡ true → now_at T D (hierarchy f) ≡ Some (Table t)
      → ((g r : ℕ) → hierarchy g ≡ hierarchy f → IsSome (find_row r rows) → IsSome (find_row r t.table.rows) ⊎ New g r) → Follows T places New D (with_object (hierarchy f) (Some (with_rows rows t)) D)
  rows_follow D f p t rows e plain is few =
      let o = Some (with_rows rows t) in
      let t' : Tbl = record { parent = t.parent; table = record t.table { rows = rows } } in
      let puts = puts_object T D (hierarchy f) o in
      record {
        gets = λ k two table. get_other D (hierarchy f) k o (λ same. table (ap (λ x. x % 32) same ∙ beside_kind f 13 (omega arith)));
        others = λ x. elim (cases_eq x (hierarchy f)) [ inl same ↦ inr (f, (p, e, plain), inr same) | inr other ↦ inl (puts.others x other) ];
        rows = λ g r has. elim (cases_eq (hierarchy g) (hierarchy f)) [
          | inl same ↦
              let one = same_table t' has.0 (sym puts.here ∙ ap (now_at T (with_object (hierarchy f) o D)) (sym same) ∙ has.1) in
              elim (few g r same (subst (λ (x : Tbl). IsSome (find_row r x.table.rows)) (sym one) has.2)) [ inl old ↦ inl (t, ap (now_at T D) same ∙ is, old) | inr new ↦ inr new ]
          | inr other ↦ inl (has.0, sym (puts.others (hierarchy g) other) ∙ has.1, has.2)
        ];
      }

  -- a row of an id is put in a plain folder's table of folders
  shown_follows : (D : Changed) (f id : ℕ) (p : FolderPlace) (t : Tbl) (props : List Val) → find_place f places ≡ Some p → is_plain p ≡ true → now_at T D (hierarchy f) ≡ Some (Table t)
      → ((g : ℕ) → hierarchy g ≡ hierarchy f → IsSome (find_row id t.table.rows) ⊎ New g id) → Follows T places New D (with_object (hierarchy f) (Some (with_rows (shown_row id props t.table) t)) D)
  shown_follows D f id p t props e plain is named = rows_follow D f p t (shown_row id props t.table) e plain is (λ g r same has. elim (cases_eq r id) [
    | inl here ↦ elim (named g same) [ inl old ↦ inl (subst (λ x. IsSome (find_row x t.table.rows)) (sym here) old) | inr new ↦ inr (subst (New g) (sym here) new) ]
    | inr other ↦ inl (subst IsSome (find-put_other (λ x. x.0) r (id, mirror t.table.columns props) t.table.rows other) has)
  ])

  pub added_follows : (D : Changed) (f id : ℕ) (p : FolderPlace) (t : Tbl) (props : List Val) → find_place f places ≡ Some p → is_plain p ≡ true → now_at T D (hierarchy f) ≡ Some (Table t)
      → ((g : ℕ) → hierarchy g ≡ hierarchy f → New g id) → IfOk (add_shown T (hierarchy f) id props D) (Follows T places New D)
  unfolding add_shown
  added_follows D f id p t props e plain is new = rw is (elim (cases_Bool (overfills t.table.rows (shown_row id props t.table))) [
    | inl b ↦ rw b tt
    | inr b ↦ rw b (shown_follows D f id p t props e plain is (λ g same. inr (new g same)))
  ])

  module _ (D : Changed) (w : AreWhole places (now_at T D)) (f : ℕ) (p : FolderPlace) (e : find_place f places ≡ Some p) (plain : is_plain p ≡ true) where
    two : f % 32 ≡ 2
    two = plain_id (nearly (λ x. ⊥) places (now_at T D) w) f p e plain

    -- a table of folders is put as it is
    same_follows : (D1 : Changed) (t : Tbl) (g : ℕ) (q : FolderPlace) → find_place g places ≡ Some q → is_plain q ≡ true → now_at T D1 (hierarchy g) ≡ Some (Table t) → IfOk (table_as_is T (hierarchy g) D1) (Follows T places New D1)
    unfolding table_as_is
    same_follows D1 t g q eq plain_q is = rw is (rows_follow D1 g q t t.table.rows eq plain_q is (λ h r same has. inl has))

    mirrored_follows : (c : Ctx) (props : List Val) → now_at T D f ≡ Some (Context c) → let D1 = with_context f c props D in IfOk (mirrored T f D1) (Follows T places New D1)
    unfolding mirrored put_shown
    mirrored_follows c props is_c =
        let D1 = with_context f c props D in
        let new : Ctx = record c { props = props } in
        let puts = puts_object T D f (Some (Context new)) in
        let table_stays : (g : ℕ) → now_at T D1 (hierarchy g) ≡ now_at T D (hierarchy g) = λ g. puts.others (hierarchy g) (λ same. omega (arith, two, beside_kind g 13 (omega arith))) in
        elim (cases_Bool (f == ROOT)) [
          | inl b ↦ let r = w.root in let t = folders_of w ROOT r.0 r.1 r.2 in rw b (same_follows D1 t.0 ROOT r.0 r.1 r.2 (table_stays ROOT ∙ t.1))
          | inr b ↦
              let v = w.contexts f p e in
              let one : v.0 ≡ c = cc in
              let up : c.parent ≡ p.parent.bits = subst (λ (x : Ctx). x.parent ≡ p.parent.bits) one (v.2 (eqb-false f ROOT b)) in
              let q = w.parents f p e (eqb-false f ROOT b) in
              let at : now_at T D1 (hierarchy c.parent) ≡ Some (Table q.3.0) = table_stays c.parent ∙ ap (λ x. now_at T D (hierarchy x)) up ∙ q.3.1 in
              rw (b, puts.here, at) (shown_follows D1 c.parent f q.0 q.3.0 props (ap (λ x. find_place x places) up ∙ q.1) q.2 at (λ g same. inl q.3.2))
        ]

    -- a plain folder is settled
    pub settled_follows : IfOk (settled T places f D) (Follows T places New D)
    unfolding settled counted
    settled_follows =
        let c = w.contexts f p e in let t = messages_of w f p e plain in
        rw (c.1, t.1) (if_then (λ D1. Follows T places New D D1 × IfOk (mirrored T f D1) (Follows T places New D1)) (Follows T places New D) (unread_among T D (message_ids t.0.table) >>= _) (mirrored T f)
        (if_then (λ n. Unit {0}) _ (unread_among T D (message_ids t.0.table)) _ (if_any (unread_among T D (message_ids t.0.table))) (λ n u.
        let props = with_counts (length (message_ids t.0.table)) n (list_any (is_child f) places) c.0.props in
        let o = Some (Context (record c.0 { props = props })) in
        (values_follow D (with_context f c.0 props D) f p o e plain two (puts_object T D f (Some (Context (record c.0 { props = props })))) (λ k other. get_other D f k o other), mirrored_follows c.0 props c.1)))
        (λ D1 k. if_weaker (Follows T places New D1) (Follows T places New D) (mirrored T f D1) k.1 (λ D2 k2. follows_then D D1 D2 k.0 k2)))
