-- Changes that leave each object of its form, and no table of folders with more rows.
use Rattle.std.proofs.Common.{◌≡◌, ◌∙◌, ◌⊎◌, ℕ, ◌%◌, true, List, Option, None, Some, IsSome, is_some, ap, sym, refl, subst, inl, inr}
use Rattle.std.proofs.lemmas.Bool.{cases_eq, eq-eqb}
use Rattle.std.proofs.lemmas.Option.{same_Some}
use Rattle.std.specs.Cmp.{nat_cmp_total}
use Rattle.std.specs.FinMap as map
use Rattle.mapi_values.specs.Tables.{find_row}
use Rattle.mapi_values.specs.Values.{Val}
use Rattle.mail_objects.specs.Forms.{Ctx, Tbl}
use Rattle.mail_objects.specs.declared.object.Object.{Object}
use Rattle.mail_objects.specs.declared.object.Object.TheVariants.{Context, Table}
use Rattle.mail_tree.specs.declared.places.FolderPlace.{FolderPlace}
use Rattle.mail_tree.specs.Changing.{Changed, as_message, now_at, with_object}
use Rattle.mail_tree.specs.Found.{BelongsAt}
use Rattle.mail_tree.specs.Settling.{with_context}
use Rattle.mail_tree.specs.Tree.{Tree}
use Rattle.mail_tree.proofs.AfterTree.{puts_object, tied}
use Rattle.mail_tree.proofs.KindsOfPuts.{same_table}
use Rattle.mail_tree.proofs.Nearly.{Puts}
use Rattle.mail_laws.proofs.FoundSteps.{get_other}

-- a table of folders has no row of an id that it had none of
abbrev pub ListsNoMore : ℕ → Tbl → Tbl → Type 0
ListsNoMore q t u = q % 32 ≡ 13 → (r : ℕ) → IsSome (find_row r u.table.rows) → IsSome (find_row r t.table.rows)

-- Further changes are quiet: an object stands where one was put, and just where one stood; messages and criteria objects stay, tables stay tables, and what stands belongs there where what stood did.
pub record IsQuiet (T : Tree) (D D' : Changed) : Type 0 where
  pub puts : (q : ℕ) → (map.get D'.objects q ≡ map.get D.objects q) ⊎ (IsSome (map.get D'.objects q) × IsSome (now_at T D' q))
  pub stands : (q : ℕ) → is_some (now_at T D' q) ≡ is_some (now_at T D q)
  pub messages : (q : ℕ) → as_message (now_at T D' q) ≡ as_message (now_at T D q)
  pub tables : (q : ℕ) (t : Tbl) → now_at T D q ≡ Some (Table t) → (u : Tbl) × (now_at T D' q ≡ Some (Table u)) × ListsNoMore q t u
  pub belongs : (places : List FolderPlace) (q : ℕ) (x : Object) → now_at T D' q ≡ Some x → (y : Object) × (now_at T D q ≡ Some y) × (BelongsAt places q y → BelongsAt places q x)
  pub criteria : (q : ℕ) → q % 32 ≡ 7 → now_at T D' q ≡ now_at T D q

-- no further changes are quiet
pub quiet_stay : (T : Tree) (D : Changed) → IsQuiet T D D
quiet_stay T D = record {
  puts = λ q. inl refl;
  stands = λ q. refl;
  messages = λ q. refl;
  tables = λ q t is. (t, is, λ kind r row. row);
  belongs = λ places q x is. (x, is, λ b. b);
  criteria = λ q seven. refl;
}

-- quiet changes, one after the other
pub quiet_then : (T : Tree) (D D1 D2 : Changed) → IsQuiet T D D1 → IsQuiet T D1 D2 → IsQuiet T D D2
quiet_then T D D1 D2 a b = record {
  puts = λ q. elim (b.puts q) [
    | inr put ↦ inr put
    | inl same ↦ elim (a.puts q) [
      | inl same' ↦ inl (same ∙ same')
      | inr put ↦ inr (subst IsSome (sym same) put.0, b.stands q ∙ put.1)
    ]
  ];
  stands = λ q. b.stands q ∙ a.stands q;
  messages = λ q. b.messages q ∙ a.messages q;
  tables = λ q t is. let u = a.tables q t is in let v = b.tables q u.0 u.1 in (v.0, v.1, λ kind r row. u.2 kind r (v.2 kind r row));
  belongs = λ places q x is. let y = b.belongs places q x is in let z = a.belongs places q y.0 y.1 in (z.0, z.1, λ h. y.2 (z.2 h));
  criteria = λ q seven. b.criteria q seven ∙ a.criteria q seven;
}

-- what is put is there
got_here : (D : Changed) (q : ℕ) (o : Option Object) → map.get (map.insert D.objects q o) q ≡ Some o
got_here D q o = rw (map.get-insert nat_cmp_total D.objects q o q, tied true q q (eq-eqb q q refl)) refl

module _ (T : Tree) (D D' : Changed) (q : ℕ) (x y : Object) (stood : now_at T D q ≡ Some x) (puts : Puts (now_at T D) (now_at T D') q (Some y)) where
  -- an object takes the place of one of its form
  quiet_put : ((k : ℕ) → (k ≡ q → ⊥) → map.get D'.objects k ≡ map.get D.objects k) → IsSome (map.get D'.objects q) → as_message (Some x) ≡ None → as_message (Some y) ≡ None
      → ((t : Tbl) → x ≡ Table t → (u : Tbl) × (y ≡ Table u) × ListsNoMore q t u) → ((places : List FolderPlace) → BelongsAt places q x → BelongsAt places q y) → (q % 32 ≡ 7 → ⊥) → IsQuiet T D D'
  quiet_put gets got old new table belongs other = record {
    puts = λ k. elim (cases_eq k q) [
      | inl e ↦ inr (subst (λ z. IsSome (map.get D'.objects z)) (sym e) got, ap (λ z. is_some (now_at T D' z)) e ∙ ap is_some puts.here)
      | inr n ↦ inl (gets k n)
    ];
    stands = λ k. elim (cases_eq k q) [
      | inl e ↦ ap (λ z. is_some (now_at T D' z)) e ∙ ap is_some puts.here ∙ sym (ap is_some stood) ∙ ap (λ z. is_some (now_at T D z)) (sym e)
      | inr n ↦ ap is_some (puts.others k n)
    ];
    messages = λ k. elim (cases_eq k q) [
      | inl e ↦ ap (λ z. as_message (now_at T D' z)) e ∙ ap as_message puts.here ∙ new ∙ sym old ∙ sym (ap as_message stood) ∙ ap (λ z. as_message (now_at T D z)) (sym e)
      | inr n ↦ ap as_message (puts.others k n)
    ];
    tables = λ k t is. elim (cases_eq k q) [
      | inl e ↦
          let u = table t (same_Some x (Table t) (sym stood ∙ ap (now_at T D) (sym e) ∙ is)) in
          (u.0, ap (now_at T D') e ∙ puts.here ∙ ap (λ (z : Object). Some z) u.1, λ kind r row. u.2 (ap (λ z. z % 32) (sym e) ∙ kind) r row)
      | inr n ↦ (t, puts.others k n ∙ is, λ kind r row. row)
    ];
    belongs = λ places k z is. elim (cases_eq k q) [
      | inl e ↦
          let same : y ≡ z = same_Some y z (sym puts.here ∙ ap (now_at T D') (sym e) ∙ is) in
          (x, ap (now_at T D) e ∙ stood, λ b. subst (BelongsAt places k) same (subst (λ v. BelongsAt places v y) (sym e) (belongs places (subst (λ v. BelongsAt places v x) e b))))
      | inr n ↦ (z, sym (puts.others k n) ∙ is, λ b. b)
    ];
    criteria = λ k seven. puts.others k (λ e. other (ap (λ z. z % 32) (sym e) ∙ seven));
  }

-- a table gets other rows, none more where it is one of folders
pub quiet_table : (T : Tree) (D : Changed) (q : ℕ) (t u : Tbl) → now_at T D q ≡ Some (Table t) → (q % 32 ≡ 7 → ⊥) → ListsNoMore q t u → IsQuiet T D (with_object q (Some (Table u)) D)
quiet_table T D q t u stood other rows = quiet_put T D (with_object q (Some (Table u)) D) q (Table t) (Table u) stood (puts_object T D q (Some (Table u)))
    (λ k n. get_other D q k (Some (Table u)) n) (ap is_some (got_here D q (Some (Table u)))) refl refl
    (λ v e. (u, refl, λ kind r row. subst (λ (z : Tbl). IsSome (find_row r z.table.rows)) (same_table t v (ap (λ (z : Object). Some z) e)) (rows kind r row))) (λ places b. b) other

no_table : (c : Ctx) (t : Tbl) → ◌≡◌ {A = Object} (Context c) (Table t) → ⊥
no_table c t e = cc

-- a folder gets other values
pub quiet_context : (T : Tree) (D : Changed) (f : ℕ) (c : Ctx) (props : List Val) → now_at T D f ≡ Some (Context c) → (f % 32 ≡ 7 → ⊥) → IsQuiet T D (with_context f c props D)
quiet_context T D f c props stood other =
    let new : Ctx = record c { props = props } in
    quiet_put T D (with_context f c props D) f (Context c) (Context new) stood (puts_object T D f (Some (Context new)))
    (λ k n. get_other D f k (Some (Context new)) n) (ap is_some (got_here D f (Some (Context new)))) refl refl
    (λ t e. absurd (no_table c t e)) (λ places b. b) other
