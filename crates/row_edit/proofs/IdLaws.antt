-- Ids for the values of a row.
use Rattle.std.proofs.Common.{◌≡◌, ◌≢◌, ◌∙◌, ◌%◌, ◌++◌, ◌∷◌, [], ℕ, Bool, true, false, List, length, get_or, Option, Some, None, refl, sym, ap, subst, inl, inr, arith}
use Rattle.std.proofs.lemmas.Bool.{cases_eq, cases_lt, eq-eqb, ne_eqb, true≢false}
use Rattle.std.proofs.lemmas.List.{get_or_append_left, get_or_push, length_push}
use Rattle.std.specs.Prelude.{IsTrue, OnErr, Result, Ok, Err}
use Rattle.heap_items.specs.Items.{AddsItem}
use Rattle.bth_tree.specs.Making.{Keeps}
use Rattle.bth_tree.proofs.OptionLaws.{none-some, some-injective}
use Rattle.mapi_values.specs.declared.column.Column.{Column}
use Rattle.mapi_values.specs.Columns.{in_cell}
use Rattle.mapi_values.specs.Values.{Val}
use Rattle.node_values.specs.Named.{named}
use Rattle.table_writer.specs.Filling.{no_column}
use Rattle.row_edit.specs.Cells.{held, pick}
use Rattle.row_edit.specs.Edits.{Adds, Keeping, NamesBytes, NamesValue, NamesValues}

keeps-item : (tells : (ℕ → Option (List ℕ)) → Type 0) (old : ℕ → Option (List ℕ)) (x : List ℕ) (hid : ℕ) (a : AddsItem tells old x hid) → Keeps old a.get
keeps-item tells old x hid a h y was = a.others h (λ e. none-some y (sym a.free ∙ ap old (sym e) ∙ was)) ∙ was

named-item : (get : ℕ → Option (List ℕ)) (sub : ℕ → Option (List (List ℕ))) (hid : ℕ) → hid ≢ 0 → hid % 32 ≡ 0 → named get sub hid ≡ get hid
unfolding named
named-item get sub hid some kind = rw (ne_eqb hid 0 some, eq-eqb (hid % 32) 0 kind) refl

named-none : (get : ℕ → Option (List ℕ)) (sub : ℕ → Option (List (List ℕ))) → named get sub 0 ≡ Some []
unfolding named
named-none get sub = refl

no-length : (x : List ℕ) → length x ≡ 0 → x ≡ []
no-length [] e = refl
no-length (y ∷ x) e = absurd (omega (arith, e))

-- no bytes have the id 0
pub names-none : (tells : (ℕ → Option (List ℕ)) → Type 0) (get : ℕ → Option (List ℕ)) (held_id : ℕ) (x : List ℕ) → tells get → length x ≡ 0 → Adds tells get (λ now. NamesBytes get now held_id x 0)
names-none tells get held_id x told e = record {
  keeping = record { get = get; told = told; kept = λ h y z. z };
  is = record {
    here = λ sub. named-none get sub ∙ ap Some (sym (no-length x e));
    kind = refl;
    same = λ some a b c. absurd (omega (arith, e, some));
  };
}

-- the id that was held
pub names-held : (tells : (ℕ → Option (List ℕ)) → Type 0) (get : ℕ → Option (List ℕ)) (held_id : ℕ) (x : List ℕ) → tells get → held_id ≢ 0 → held_id % 32 ≡ 0 → get held_id ≡ Some x
    → Adds tells get (λ now. NamesBytes get now held_id x held_id)
names-held tells get held_id x told some kind here = record {
  keeping = record { get = get; told = told; kept = λ h y z. z };
  is = record { here = λ sub. named-item get sub held_id some kind ∙ here; kind = kind; same = λ a b c d. refl };
}

-- an item that was added
pub names-item : (tells : (ℕ → Option (List ℕ)) → Type 0) (get : ℕ → Option (List ℕ)) (held_id : ℕ) (x : List ℕ) (hid : ℕ) → AddsItem tells get x hid
    → (held_id ≢ 0 → held_id % 32 ≡ 0 → get held_id ≡ Some x → ⊥) → Adds tells get (λ now. NamesBytes get now held_id x hid)
names-item tells get held_id x hid a other = record {
  keeping = record { get = a.get; told = a.told; kept = keeps-item tells get x hid a };
  is = record { here = λ sub. named-item a.get sub hid a.some a.kind ∙ a.here; kind = a.kind; same = λ b c d e. absurd (other c d e) };
}

-- the id of a value's bytes is that of the value
pub names-value : (tells : (ℕ → Option (List ℕ)) → Type 0) (get : ℕ → Option (List ℕ)) (third : ℕ) (row : List ℕ) (values : List Val) (c : Column) (v : Val) (held_id hnid : ℕ) (x : List ℕ)
    → held_id ≡ held third row c → pick values c ≡ Some v → x ≡ v.bytes → Adds tells get (λ now. NamesBytes get now held_id x hnid) → Adds tells get (λ now. NamesValue get now third row values c hnid)
names-value tells get third row values c v held_id hnid x e h b a = record {
  keeping = a.keeping;
  is = λ w i none. let same : v ≡ w = some-injective v w (sym h ∙ i) in
      subst (λ (n : ℕ). NamesBytes get a.keeping.get n w.bytes hnid) e (subst (λ (y : List ℕ). NamesBytes get a.keeping.get held_id y hnid) (b ∙ ap (λ (u : Val). u.bytes) same) a.is);
}

-- nothing is asked of an id that names no value
pub names-nothing : (tells : (ℕ → Option (List ℕ)) → Type 0) (get : ℕ → Option (List ℕ)) (third : ℕ) (row : List ℕ) (values : List Val) (c : Column) (hnid : ℕ) → tells get
    → ((v : Val) → pick values c ≡ Some v → in_cell c.tag.kind ≡ None → ⊥) → Adds tells get (λ now. NamesValue get now third row values c hnid)
names-nothing tells get third row values c hnid told none = record { keeping = record { get = get; told = told; kept = λ h y z. z }; is = λ v h i. absurd (none v h i) }

-- what names a value does so still where more was added
bytes-kept : (old mid now : ℕ → Option (List ℕ)) (held_id : ℕ) (x : List ℕ) (hnid : ℕ) → Keeps mid now → NamesBytes old mid held_id x hnid → NamesBytes old now held_id x hnid
bytes-kept old mid now held_id x hnid k n = record {
  here = λ sub. elim (cases_eq hnid 0) [
    | inl e ↦
        let h : named mid sub 0 ≡ Some x = subst (λ (k : ℕ). named mid sub k ≡ Some x) e (n.here sub) in
        subst (λ (k : ℕ). named now sub k ≡ Some x) (sym e) (named-none now sub ∙ sym (named-none mid sub) ∙ h)
    | inr d ↦ named-item now sub hnid d n.kind ∙ k hnid x (sym (named-item mid sub hnid d n.kind) ∙ n.here sub)
  ];
  kind = n.kind;
  same = n.same;
}

-- the same where it was found in what more was found
bytes-before : (old mid now : ℕ → Option (List ℕ)) (held_id : ℕ) (x : List ℕ) (hnid : ℕ) → Keeps old mid → NamesBytes mid now held_id x hnid → NamesBytes old now held_id x hnid
bytes-before old mid now held_id x hnid k n = record { here = n.here; kind = n.kind; same = λ a b c d. n.same a b c (k held_id x d) }

pub names-start : (tells : (ℕ → Option (List ℕ)) → Type 0) (get : ℕ → Option (List ℕ)) (third : ℕ) (row : List ℕ) (values : List Val) (columns : List Column) → tells get → Adds tells get (λ now. NamesValues get now third row values columns [])
names-start tells get third row values columns told = record { keeping = record { get = get; told = told; kept = λ h y z. z }; is = λ k lt. absurd (omega (arith, lt)) }

-- one more column has its id
pub names-step : (tells : (ℕ → Option (List ℕ)) → Type 0) (get : ℕ → Option (List ℕ)) (third : ℕ) (row : List ℕ) (values : List Val) (columns : List Column) (ids : List ℕ) (hnid : ℕ) (mid : Keeping tells get)
    → (tells_now : (ℕ → Option (List ℕ)) → Type 0) → NamesValues get mid.get third row values columns ids → Adds tells_now mid.get (λ now. NamesValue mid.get now third row values (get_or columns (length ids) no_column) hnid)
    → Adds tells_now get (λ now. NamesValues get now third row values columns (ids ++ hnid ∷ []))
names-step tells get third row values columns ids hnid mid tells_now are a = record {
  keeping = record { get = a.keeping.get; told = a.keeping.told; kept = λ h y z. a.keeping.kept h y (mid.kept h y z) };
  is = λ k lt v h none. elim (cases_lt k (length ids)) [
    | inl low ↦ subst (λ (n : ℕ). NamesBytes get a.keeping.get (held third row (get_or columns k no_column)) v.bytes n) (sym (get_or_append_left ids (hnid ∷ []) 0 k low))
        (bytes-kept get mid.get a.keeping.get (held third row (get_or columns k no_column)) v.bytes (get_or ids k 0) a.keeping.kept (are k low v h none))
    | inr high ↦
        let at : k ≡ length ids = omega (arith, lt, high, length_push ids hnid) in
        let there = a.is v (ap (λ (n : ℕ). pick values (get_or columns n no_column)) (sym at) ∙ h) (ap (λ (n : ℕ). in_cell (get_or columns n no_column).tag.kind) (sym at) ∙ none) in
        let here = bytes-before get mid.get a.keeping.get (held third row (get_or columns (length ids) no_column)) v.bytes hnid mid.kept there in
        let at_k : NamesBytes get a.keeping.get (held third row (get_or columns k no_column)) v.bytes hnid = subst (λ (n : ℕ). NamesBytes get a.keeping.get (held third row (get_or columns n no_column)) v.bytes hnid) (sym at) here in
        subst (λ (n : ℕ). NamesBytes get a.keeping.get (held third row (get_or columns k no_column)) v.bytes n) (sym (get_or_push ids hnid 0 k (sym at))) at_k
  ];
}

pub not-holds : (b : Bool) → IsTrue b → b ≡ false → ⊥
not-holds true t e = true≢false e
not-holds false t e = true≢false (sym t)

pub on-err : {T F P : Type 0} (r : Result T F) → P → OnErr r P
on-err (Ok x) p = tt
on-err (Err x) p = p

pub keeping-more : (tells tells_now : (ℕ → Option (List ℕ)) → Type 0) (get : ℕ → Option (List ℕ)) (mid : Keeping tells get) → Keeping tells_now mid.get → Keeping tells_now get
keeping-more tells tells_now get mid k = record { get = k.get; told = k.told; kept = λ h y z. k.kept h y (mid.kept h y z) }
