-- Values put into a heap and into subnodes, and the records that name them.
use Rattle.std.proofs.Common.{◌≡◌, ℕ, zero, suc, ◌+◌, ◌-◌, ◌*◌, ◌%◌, ◌^◌, ◌<◌, ◌≤◌, ◌==◌, ◌&&◌, Bool, true, false, List, [], ◌∷◌, ◌++◌, length, map, take, drop, replicate, Option, Some, None, refl, sym, ap, ◌∙◌, inl, inr, if◌then◌else◌, append_assoc, subst, length-append, arith, ◌||◌}
use Rattle.std.specs.Prelude.{nat_le, nat_lt}
use Rattle.std.specs.List.{concat, list_any}
use Rattle.std.specs.Option.{is_some, option_and_then, option_map}
use Rattle.std.proofs.lemmas.Bool.{and_from, and_parts, cases_Bool, cases_eq, eq-eqb, eqb-true, le-ltb, leb-true, lt-ltb, ne_eqb}
use Rattle.std.proofs.lemmas.List.{append-nil, drop_at, length-map, length-replicate, length_push, map-append, take_all, take_at}
use Rattle.byteorder.specs.Endian.{little_bytes}
use Rattle.byteorder.specs.Numbers.{length-bytes_low_first}
use Rattle.pst_base.specs.Flat.{Flat}
use Rattle.pst_base.specs.Subs.{flattened}
use Rattle.pst_base.specs.Fields.{number_at}
use Rattle.pst_base.proofs.Numbers.{number_at-first}
use Rattle.mapi_values.specs.Values.{Val, allows, fits, in_field}
use Rattle.mapi_values.specs.Properties.{ascend_from}
use Rattle.write_limits.specs.Limits.{direct, props_fit}
use Rattle.bth_tree.specs.Records.{within}
use Rattle.bth_tree.proofs.WholeLaws.{within-first}
use Rattle.property_context.proofs.ValueLaws.{value-parts, values-parts}
use Rattle.write_limits.specs.Limits.{is_long, long_value, long_values}
use Rattle.heap_on_node.specs.Heap.{index_of}
use Rattle.heap_on_node.specs.Packing.{Adds, IsPacked, item_in}
use Rattle.heap_on_node.proofs.PackingLaws.{item_in-off, kept-by_adds}
use Rattle.bth_tree.specs.Making.{AreRecords, Keeps, Makes}
use Rattle.bth_tree.proofs.MakeLaws.{bth-kept}
use Rattle.heap_on_node.specs.Heap.{IsHeap, item}
use Rattle.bth_tree.proofs.OptionLaws.{none-some, some-injective}
use Rattle.bth_tree.proofs.MakeLaws.{AreRecords-push, item_in-zero}
use Rattle.write_limits.specs.Space.{short_bytes, values_bytes}
use Rattle.property_context.specs.declared.placing.Placer.{Placer}
use Rattle.property_context.specs.Context.{IsPropertyContext, fitting, is_named, names, of_field, value_of, values_of}
use Rattle.node_values.specs.Subnodes.{data_of, without}
use Rattle.node_values.specs.Named.{KeepsData, named, pieces}
use Rattle.property_context.specs.Placing.{AddsLong, Places, Placing, is_id, long_bytes, placed_data, span}
use Rattle.property_context.specs.Writing.{ArePlain, Grows, Holds, IsPlainRecord, PutsBytes, PutsValue, PutsValues, WritesFields, hnid_is, in_heap, slot_of}
use Rattle.property_context.proofs.RoomLaws.{few-records, holds-none, two-a_block}
use Rattle.node_values.proofs.SubLaws.{flattened-append, without-same}
use Rattle.node_values.proofs.NamedLaws.{named-item, named-sub, named-zero}
use Rattle.node_values.proofs.PieceLaws.{concat-pieces}
use Rattle.property_context.proofs.PlaceLaws.{data-append, data-without, placed-all}

-- ---- bytes under an id

no-more : (p : Placer) (long : List (ℕ × List ℕ)) (rest : List Flat) → Placing p long rest → Placing p (long ++ []) rest
no-more p long rest h = subst (λ (l : List (ℕ × List ℕ)). Placing p l rest) (sym (append-nil long)) h

-- room for more items
holds-more : (heap : List (List (List ℕ))) (n m : ℕ) → n ≤ m → Holds heap n → Holds heap m
holds-more heap n m le h = record { slots = h.slots; few = omega (arith, h.few); each = h.each }

-- one more item
holds-add : (heap heap2 : List (List (List ℕ))) (x : List ℕ) (hid n : ℕ) → length x ≤ 3580 → Adds heap x heap2 hid → Holds heap n → Holds heap2 (n + 1)
holds-add heap heap2 x hid n len a h = record {
  slots = slot_of hid ∷ h.slots;
  few = omega (arith, h.few);
  each = λ at y e. elim (cases_eq at hid) [
    | inl same ↦
        let is : x ≡ y = some-injective x y (sym a.here ∙ ap (item_in heap2) (sym same) ∙ e) in
        (omega (arith, ap length is, len), rw (eq-eqb (slot_of at) (slot_of hid) (ap slot_of same)) refl)
    | inr other ↦
        let old = h.each at y (sym (a.others at other) ∙ e) in
        (old.0, or-right (slot_of at == slot_of hid) (list_any (λ m. slot_of at == m) h.slots) old.1)
  ];
}
  where
    or-right : (a b : Bool) → b ≡ true → (a || b) ≡ true
    or-right true b h = refl
    or-right false b h = h

-- nothing grew
pub grows-none : (heap : List (List (List ℕ))) (p : Placer) (count : ℕ) → Grows heap heap p p count []
grows-none heap p count = record {
  items = λ hid x h. h;
  holds = λ n h. holds-more heap n (n + count) (omega arith) h;
  found = λ nid bs h. h;
  room = omega arith;
  placing = no-more p;
}

pub grows-item : (heap heap2 : List (List (List ℕ))) (p : Placer) (x : List ℕ) (hid : ℕ) → length x ≤ 3580 → Adds heap x heap2 hid → Grows heap heap2 p p 1 []
grows-item heap heap2 p x hid len a = record {
  items = kept-by_adds heap heap2 x hid a;
  holds = λ n h. holds-add heap heap2 x hid n len a h;
  found = λ nid bs h. h;
  room = omega arith;
  placing = no-more p;
}

pub grows-sub : (heap : List (List (List ℕ))) (old new : Placer) (bytes : List ℕ) (nid : ℕ) → Places old new nid bytes → Grows heap heap old new 1 ((nid, bytes) ∷ [])
grows-sub heap old new bytes nid p = record {
  items = λ hid x h. h;
  holds = λ n h. holds-more heap n (n + 1) (omega arith) h;
  found = p.kept;
  room = omega (arith, p.span_is);
  placing = p.placing;
}

-- no bytes under 0
pub puts-none : (heap : List (List (List ℕ))) (p : Placer) (bytes : List ℕ) → length bytes ≡ 0 → PutsBytes heap heap p p bytes 0
puts-none heap p [] len = record {
  added = [];
  grows = grows-none heap p 1;
  plain = refl;
  bytes_are = refl;
  reads = λ get sub k d. named-zero get sub;
  subnode = λ nid. refl;
  spent = omega arith;
}
puts-none heap p (x ∷ xs) len = absurd (omega arith)

-- an item's id
item-id : (heap : List (List (List ℕ))) (hid : ℕ) (x : List ℕ) → item_in heap hid ≡ Some x → (hid % 32 ≡ 0) × (hid ≡ 0 → ⊥)
item-id heap hid x h = (
  elim (cases_Bool ((hid % 32 == 0) && nat_lt 0 (index_of hid))) [
    | inl t ↦ eqb-true (hid % 32) 0 (and_parts (hid % 32 == 0) (nat_lt 0 (index_of hid)) t).0
    | inr f ↦ absurd (none-some x (sym (item_in-off heap hid f) ∙ h))
  ],
  λ z. none-some x (sym (item_in-zero heap) ∙ ap (item_in heap) (sym z) ∙ h),
)

pub puts-item : (heap heap2 : List (List (List ℕ))) (p : Placer) (bytes : List ℕ) (hid : ℕ) → (length bytes ≡ 0 → ⊥) → length bytes ≤ 3580 → Adds heap bytes heap2 hid → PutsBytes heap heap2 p p bytes hid
puts-item heap heap2 p bytes hid some len a =
    let id = item-id heap2 hid bytes a.here in
    record {
      added = [];
      grows = grows-item heap heap2 p bytes hid len a;
      plain = rw (ne_eqb (length bytes) 0 some, le-ltb 3580 (length bytes) len) (eq-eqb (hid % 32) 0 id.0);
      bytes_are = sym (rw (le-ltb 3580 (length bytes) len) refl);
      reads = λ get sub k d. named-item get sub hid id.1 id.0 ∙ k hid bytes a.here;
      subnode = λ nid. rw (eq-eqb (hid % 32) 0 id.0) refl;
      spent = rw (le-ltb 3580 (length bytes) len) (omega (arith, a.spent, pos (length bytes) some));
    }
  where
    pos : (n : ℕ) → (n ≡ 0 → ⊥) → 0 < n
    pos zero h = absurd (h refl)
    pos (suc n) h = omega arith

pub puts-sub : (heap : List (List (List ℕ))) (old new : Placer) (bytes : List ℕ) (nid : ℕ) → 3580 < length bytes → Places old new nid bytes → PutsBytes heap heap old new bytes nid
puts-sub heap old new bytes nid len p = record {
  added = (nid, bytes) ∷ [];
  grows = grows-sub heap old new bytes nid p;
  plain = rw (ne_eqb (length bytes) 0 (λ z. omega arith), lt-ltb 3580 (length bytes) len) (eq-eqb (nid % 32) 31 p.kind);
  bytes_are = sym (rw (lt-ltb 3580 (length bytes) len) refl);
  reads = λ get sub k d. named-sub get sub nid p.kind ∙ ap (option_map concat) (d nid (pieces bytes) p.here) ∙ ap Some (concat-pieces bytes);
  subnode = λ n. rw (ne_eqb (nid % 32) 0 (λ e. omega (arith, p.kind))) (elim (cases_Bool (nid == n)) [ inl t ↦ rw t refl | inr f ↦ rw f refl ]);
  spent = omega arith;
}

-- ---- a value under a record

-- the entry of a kind and a field
abbrev pub entry_is : ℕ → List ℕ → List ℕ
entry_is kind field = little_bytes 2 kind ++ (field ++ replicate (4 - length field) 0)

entry-kind : (kind : ℕ) (field : List ℕ) → kind < 65536 → number_at 2 0 (entry_is kind field) ≡ kind
entry-kind kind field h = number_at-first 2 kind (field ++ replicate (4 - length field) 0) (omega arith)

entry-field : (kind : ℕ) (field : List ℕ) → drop 2 (entry_is kind field) ≡ field ++ replicate (4 - length field) 0
entry-field kind field = drop_at (little_bytes 2 kind) (field ++ replicate (4 - length field) 0) 2 (length-bytes_low_first 0 2 kind)

pub entry-size : (kind : ℕ) (field : List ℕ) → length field ≤ 4 → length (entry_is kind field) ≡ 6
entry-size kind field h =
    omega (arith, length-append (little_bytes 2 kind) (field ++ replicate (4 - length field) 0), length-bytes_low_first 0 2 kind, length-append field (replicate (4 - length field) 0), length-replicate {A = ℕ} (4 - length field) 0)

fitting-is : (id kind : ℕ) (bytes : List ℕ) → fits kind (length bytes) ≡ true → fitting id kind bytes ≡ Some (record { id = id; kind = kind; bytes = bytes })
unfolding fitting
fitting-is id kind bytes t = rw t refl

value-is : (get : ℕ → Option (List ℕ)) (sub : ℕ → Option (List (List ℕ))) (v : Val) (field : List ℕ) → v.kind < 65536 → fits v.kind (length v.bytes) ≡ true
    → of_field get sub (in_field v.kind) (field ++ replicate (4 - length field) 0) ≡ Some v.bytes → value_of get sub (v.id, entry_is v.kind field) ≡ Some v
unfolding value_of
value-is get sub v field small fit h =
    ap (λ (k : ℕ). option_and_then (fitting v.id k) (of_field get sub (in_field k) (drop 2 (entry_is v.kind field)))) (entry-kind v.kind field small)
    ∙ ap (λ (f : List ℕ). option_and_then (fitting v.id v.kind) (of_field get sub (in_field v.kind) f)) (entry-field v.kind field)
    ∙ ap (option_and_then (fitting v.id v.kind)) h
    ∙ fitting-is v.id v.kind v.bytes fit

names-is : (nid id kind : ℕ) (field : List ℕ) → kind < 65536
    → names nid (id, entry_is kind field) ≡ (if is_some (in_field kind) || (number_at 4 0 (field ++ replicate (4 - length field) 0) % 32 == 0) then false else number_at 4 0 (field ++ replicate (4 - length field) 0) == nid)
unfolding names
names-is nid id kind field small = rw (entry-kind kind field small, entry-field kind field) refl

fits-is : (kind len : ℕ) → fits kind len ≡ allows (in_field kind) len
unfolding fits
fits-is kind len = refl

pub field-width : (kind width len : ℕ) → in_field kind ≡ Some width → fits kind len ≡ true → width ≡ len
field-width kind width len is fit = eqb-true width len (ap (λ (w : Option ℕ). allows w len) (sym is) ∙ sym (fits-is kind len) ∙ fit)

-- a width is at most 4
pub width-most : (kind width : ℕ) → in_field kind ≡ Some width → width ≤ 4
unfolding in_field
width-most kind width h = elim (cases_Bool ((kind == 0x0000) || ((kind == 0x0001) || ((kind == 0x0003) || ((kind == 0x0004) || (kind == 0x000A)))))) [
  | inl t ↦ omega (arith, some-injective 4 width (rw t at h))
  | inr f ↦ elim (cases_Bool (kind == 0x0002)) [
    | inl t ↦ omega (arith, some-injective 2 width (rw (f, t) at h))
    | inr f1 ↦ elim (cases_Bool (kind == 0x000B)) [
      | inl t ↦ omega (arith, some-injective 1 width (rw (f, f1, t) at h))
      | inr f2 ↦ absurd (none-some width (rw (f, f1, f2) at h))
    ]
  ]
]

-- the entry as it is built
pub entry-made : (kind : ℕ) (field : List ℕ) (n : ℕ) → length field ≤ 4 → n ≡ 4 - length field → take 6 (little_bytes 2 kind ++ field) ++ replicate n 0 ≡ entry_is kind field
entry-made kind field n h is =
    let len : length (little_bytes 2 kind ++ field) ≤ 6 = omega (arith, length-append (little_bytes 2 kind) field, length-bytes_low_first 0 2 kind) in
    ap (λ (x : List ℕ). x ++ replicate n 0) (take_all 6 (little_bytes 2 kind ++ field) len)
    ∙ append_assoc (little_bytes 2 kind) field (replicate n 0)
    ∙ ap (λ (m : ℕ). little_bytes 2 kind ++ (field ++ replicate m 0)) is

-- a value in the field itself
pub puts-fixed : (heap : List (List (List ℕ))) (p : Placer) (v : Val) (width : ℕ) → v.id < 65536 → v.kind < 65536 → fits v.kind (length v.bytes) ≡ true → in_field v.kind ≡ Some width
    → PutsValue heap heap p p v (v.id, entry_is v.kind v.bytes)
puts-fixed heap p v width id small fit is =
    let w : width ≡ length v.bytes = field-width v.kind width (length v.bytes) is fit in
    let most : width ≤ 4 = width-most v.kind width is in
    let zeros = replicate {A = ℕ} (4 - length v.bytes) 0 in
    record {
      added = [];
      grows = grows-none heap p 1;
      bytes = sym (rw (le-ltb 3580 (length v.bytes) (omega arith)) refl);
      reads = λ get sub k d. value-is get sub v v.bytes small fit
          (ap (λ (o : Option ℕ). of_field get sub o (v.bytes ++ replicate (4 - length v.bytes) 0)) is
          ∙ ap Some (take_at v.bytes (replicate (4 - length v.bytes) 0) width (sym w)));
      subnode = λ nid. names-is nid v.id v.kind v.bytes small
          ∙ ap (λ (o : Option ℕ). if is_some o || (number_at 4 0 (v.bytes ++ replicate (4 - length v.bytes) 0) % 32 == 0) then false else number_at 4 0 (v.bytes ++ replicate (4 - length v.bytes) 0) == nid) is;
      plain = rw is (entry-field v.kind v.bytes);
      key = id;
      size = entry-size v.kind v.bytes (omega arith);
      spent = omega arith;
    }

short-is : (v : Val) → short_bytes v ≡ in_heap v.bytes
unfolding short_bytes
short-is v = refl

-- a value that the field names
pub puts-named : (heap heap2 : List (List (List ℕ))) (old new : Placer) (v : Val) (id : ℕ) → v.id < 65536 → v.kind < 65536 → fits v.kind (length v.bytes) ≡ true → in_field v.kind ≡ None → id < 2 ^ 32
    → PutsBytes heap heap2 old new v.bytes id → PutsValue heap heap2 old new v (v.id, entry_is v.kind (little_bytes 4 id))
puts-named heap heap2 old new v id key small fit is high p =
    let number : number_at 4 0 (little_bytes 4 id ++ replicate (4 - length (little_bytes 4 id)) 0) ≡ id = number_at-first 4 id (replicate (4 - length (little_bytes 4 id)) 0) (omega arith) in
    record {
      added = p.added;
      grows = p.grows;
      bytes = p.bytes_are;
      reads = λ get sub k d. value-is get sub v (little_bytes 4 id) small fit
          (ap (λ (o : Option ℕ). of_field get sub o (little_bytes 4 id ++ replicate (4 - length (little_bytes 4 id)) 0)) is
          ∙ ap (named get sub) number ∙ p.reads get sub k d);
      subnode = λ nid. names-is nid v.id v.kind (little_bytes 4 id) small
          ∙ ap (λ (o : Option ℕ). if is_some o || (number_at 4 0 (little_bytes 4 id ++ replicate (4 - length (little_bytes 4 id)) 0) % 32 == 0) then false else number_at 4 0 (little_bytes 4 id ++ replicate (4 - length (little_bytes 4 id)) 0) == nid) is
          ∙ ap (λ (n : ℕ). if n % 32 == 0 then false else n == nid) number ∙ p.subnode nid;
      plain = rw is (ap (λ (f : List ℕ). hnid_is v.bytes (number_at 4 0 f)) (entry-field v.kind (little_bytes 4 id)) ∙ ap (hnid_is v.bytes) number ∙ p.plain);
      key = key;
      size = entry-size v.kind (little_bytes 4 id) (omega (arith, length-bytes_low_first 0 4 id));
      spent = rw (short-is v) p.spent;
    }

-- ---- values one after the other

values-push : (get : ℕ → Option (List ℕ)) (sub : ℕ → Option (List (List ℕ))) (rs : List (ℕ × List ℕ)) (vs : List Val) (r : ℕ × List ℕ) (v : Val) → values_of get sub rs ≡ Some vs → value_of get sub r ≡ Some v
    → values_of get sub (rs ++ r ∷ []) ≡ Some (vs ++ v ∷ [])
values-push get sub [] vs r v h e =
    ap (option_and_then (λ (w : Val). Some (w ∷ []))) e ∙ ap (λ (ws : List Val). Some (ws ++ v ∷ [])) (some-injective [] vs h)
values-push get sub (s ∷ rs) vs r v h e =
    let p = values-parts get sub s rs vs h in
    ap (λ (o : Option Val). option_and_then (λ (w : Val). option_and_then (λ (ws : List Val). Some (w ∷ ws)) (values_of get sub (rs ++ r ∷ []))) o) p.2
    ∙ ap (option_and_then (λ (ws : List Val). Some (p.0 ∷ ws))) (values-push get sub rs p.1 r v p.3 e)
    ∙ ap (λ (ws : List Val). Some (ws ++ v ∷ [])) (sym p.4)

or-assoc : (a b c : Bool) → ((a || b) || c) ≡ (a || (b || c))
or-assoc true b c = refl
or-assoc false b c = refl

or-none : (a : Bool) → (a || false) ≡ a
or-none true = refl
or-none false = refl

named-push : (rs : List (ℕ × List ℕ)) (r : ℕ × List ℕ) (nid : ℕ) → is_named (rs ++ r ∷ []) nid ≡ (is_named rs nid || names nid r)
named-push [] r nid = or-none (names nid r)
named-push (s ∷ rs) r nid = ap (λ (b : Bool). names nid s || b) (named-push rs r nid) ∙ sym (or-assoc (names nid s) (is_named rs nid) (names nid r))

id-append : (xs ys : List (ℕ × List ℕ)) (nid : ℕ) → is_id (xs ++ ys) nid ≡ (is_id xs nid || is_id ys nid)
id-append [] ys nid = refl
id-append (x ∷ xs) ys nid = ap (λ (b : Bool). (x.0 == nid) || b) (id-append xs ys nid) ∙ sym (or-assoc (x.0 == nid) (is_id xs nid) (is_id ys nid))

long-push : (vs : List Val) (v : Val) → long_bytes (vs ++ v ∷ []) ≡ long_bytes vs ++ long_bytes (v ∷ [])
long-push [] v = refl
long-push (w ∷ vs) v = elim (cases_Bool (is_long w)) [
  | inl t ↦ rw t (ap (λ (bs : List (List ℕ)). w.bytes ∷ bs) (long-push vs v))
  | inr f ↦ rw f (long-push vs v)
]

grows-more : (h h1 h2 : List (List (List ℕ))) (p p1 p2 : Placer) (n m : ℕ) (a b : List (ℕ × List ℕ)) → m ≡ n + 1 → Grows h h1 p p1 n a → Grows h1 h2 p1 p2 1 b → Grows h h2 p p2 m (a ++ b)
grows-more h h1 h2 p p1 p2 n m a b is g k = record {
  items = λ hid x e. k.items hid x (g.items hid x e);
  holds = λ c e. holds-more h2 (c + n + 1) (c + m) (omega arith) (k.holds (c + n) (g.holds c e));
  found = λ nid bs e. k.found nid bs (g.found nid bs e);
  room = omega (arith, g.room, k.room, length-append a b);
  placing = λ long rest e. subst (λ (l : List (ℕ × List ℕ)). Placing p2 l rest) (append_assoc long a b) (k.placing (long ++ a) rest (g.placing long rest e));
}

plain-push : (vs : List Val) (rs : List (ℕ × List ℕ)) (v : Val) (r : ℕ × List ℕ) → ArePlain vs rs → IsPlainRecord v r → ArePlain (vs ++ v ∷ []) (rs ++ r ∷ [])
plain-push [] [] v r h k = (k, tt)
plain-push [] (s ∷ rs) v r h k = absurd h
plain-push (w ∷ vs) [] v r h k = absurd h
plain-push (w ∷ vs) (s ∷ rs) v r h k = (h.0, plain-push vs rs v r h.1 k)

bytes-push : (vs : List Val) (v : Val) → values_bytes (vs ++ v ∷ []) ≡ values_bytes vs + short_bytes v
bytes-push [] v = omega arith
bytes-push (w ∷ vs) v = omega (arith, bytes-push vs v)

pub puts-step : (h h1 h2 : List (List (List ℕ))) (p p1 p2 : Placer) (vs : List Val) (rs : List (ℕ × List ℕ)) (v : Val) (r : ℕ × List ℕ) → PutsValues h h1 p p1 vs rs → PutsValue h1 h2 p1 p2 v r
    → PutsValues h h2 p p2 (vs ++ v ∷ []) (rs ++ r ∷ [])
puts-step h h1 h2 p p1 p2 vs rs v r s q = record {
  added = s.added ++ q.added;
  grows = grows-more h h1 h2 p p1 p2 (length vs) (length (vs ++ v ∷ [])) s.added q.added (length_push vs v) s.grows q.grows;
  bytes = map-append (λ (l : ℕ × List ℕ). l.1) s.added q.added ∙ ap (λ (bs : List (List ℕ)). bs ++ map (λ (l : ℕ × List ℕ). l.1) q.added) s.bytes
      ∙ ap (λ (bs : List (List ℕ)). long_bytes vs ++ bs) q.bytes ∙ sym (long-push vs v);
  reads = λ get sub k d. values-push get sub rs vs r v (s.reads get sub (λ hid x e. k hid x (q.grows.items hid x e)) (λ nid bs e. d nid bs (q.grows.found nid bs e))) (q.reads get sub k d);
  subnodes = λ nid. named-push rs r nid ∙ ap (λ (b : Bool). b || names nid r) (s.subnodes nid) ∙ ap (λ (b : Bool). is_id s.added nid || b) (q.subnode nid) ∙ sym (id-append s.added q.added nid);
  records = AreRecords-push 2 6 rs r s.records q.key q.size;
  plain = plain-push vs rs v r s.plain q.plain;
  count = length_push rs r ∙ ap (λ (n : ℕ). n + 1) s.count ∙ sym (length_push vs v);
  spent = omega (arith, s.spent, q.spent, bytes-push vs v, length_push vs v);
}

-- ---- what a writer may still take

long-count : (vs : List Val) → length (long_bytes vs) ≡ long_values vs
unfolding long_value
long-count [] = refl
long-count (v ∷ vs) = elim (cases_Bool (is_long v)) [
  | inl t ↦ rw t (omega (arith, long-count vs))
  | inr f ↦ rw f (omega (arith, long-count vs))
]

long-take : (n : ℕ) (vs : List Val) → long_values (take n vs) ≤ long_values vs
long-take zero vs = omega arith
long-take (suc n) [] = omega arith
long-take (suc n) (v ∷ vs) = omega (arith, long-take n vs)

-- the room after some of the values
pub room-left : (h h1 : List (List (List ℕ))) (p p1 : Placer) (n : ℕ) (vs : List Val) (rs : List (ℕ × List ℕ)) → PutsValues h h1 p p1 (take n vs) rs → span p1 ≤ span p + 32 * long_values vs
room-left h h1 p p1 n vs rs s =
    let count : length s.added ≡ long_values (take n vs) = sym (length-map s.added (λ (l : ℕ × List ℕ). l.1)) ∙ ap length s.bytes ∙ long-count (take n vs) in
    omega (arith, s.grows.room, count, long-take n vs)

pub fit-count : (vs : List Val) (rest : List Flat) → props_fit vs rest ≡ true → direct rest + long_values vs ≤ 173400
unfolding props_fit
fit-count vs rest h = leb-true (direct rest + long_values vs) 173400 h

within-values : (get : ℕ → Option (List ℕ)) (sub : ℕ → Option (List (List ℕ))) (low : ℕ) (rs : List (ℕ × List ℕ)) (vs : List Val) → AreRecords 2 6 rs → values_of get sub rs ≡ Some vs → ascend_from low vs ≡ true
    → within low (2 ^ 32) rs ≡ true
within-values get sub low [] vs are h a = refl
within-values get sub low (r ∷ rs) vs are h a =
    let p = values-parts get sub r rs vs h in
    let id = (value-parts get sub r p.0 p.2).0 in
    let b = and_parts (nat_le low (p.0).id) (ascend_from (suc (p.0).id) p.1) (ap (ascend_from low) (sym p.4) ∙ a) in
    within-first low (2 ^ 32) r rs (omega (arith, leb-true low (p.0).id b.0, id)) (omega (arith, are.0))
    (within-values get sub (suc r.0) rs p.1 are.2 p.3 (ap (λ (n : ℕ). ascend_from (suc n) p.1) (sym id) ∙ b.1))

-- the records of values that ascend ascend
pub records-ascend : (h h1 : List (List (List ℕ))) (p p1 : Placer) (vs : List Val) (rs : List (ℕ × List ℕ)) → PutsValues h h1 p p1 vs rs → ascend_from 0 vs ≡ true → within 0 (2 ^ 32) rs ≡ true
records-ascend h h1 p p1 vs rs s a =
    within-values (item_in h1) (placed_data p1) 0 rs vs s.records (s.reads (item_in h1) (placed_data p1) (λ hid x e. e) (λ nid bs e. e)) a

-- ---- all that is written

-- what was placed is found among all
all-data : (p : Placer) (subs : List Flat) → subs ≡ flattened (p.placed.items ++ p.left.items) → KeepsData (placed_data p) (data_of subs)
all-data p subs is = λ nid bs h.
    ap (λ (fs : List Flat). data_of fs nid) (is ∙ flattened-append p.placed.items p.left.items)
    ∙ data-append (flattened p.placed.items) (flattened p.left.items) nid bs h

pub written : (heap0 heap1 heap2 : List (List (List ℕ))) (p0 p1 : Placer) (vs : List Val) (rs : List (ℕ × List ℕ)) (blocks : List (List ℕ)) (root : ℕ) (rest subs : List Flat)
    → PutsValues heap0 heap1 p0 p1 vs rs → Makes heap1 heap2 root 2 6 rs → IsHeap blocks 0xBC root → ((hid : ℕ) → item blocks hid ≡ item_in heap2 hid) → Placing p0 [] rest
    → subs ≡ flattened (p1.placed.items ++ p1.left.items) → IsPropertyContext blocks subs vs rest
written heap0 heap1 heap2 p0 p1 vs rs blocks root rest subs s m heap items placing is =
    let all = placed-all p1 s.added rest (s.grows.placing [] rest placing) in
    let found : Keeps (item_in heap2) (item blocks) = λ hid x e. items hid ∙ e in
    record {
      root = root;
      heap = heap;
      records = rs;
      tree = bth-kept (item_in heap2) (item blocks) root 2 6 rs found m.tree;
      values_are = s.reads (item blocks) (data_of subs) (λ hid x e. found hid x (m.kept hid x e)) (all-data p1 subs is);
      rest_is = sym (ap (without (is_named rs) false) is ∙ without-same (is_named rs) (is_id s.added) false (flattened (p1.placed.items ++ p1.left.items)) s.subnodes ∙ all.1);
    }

pub written-fields : (heap0 heap1 heap2 : List (List (List ℕ))) (p0 p1 : Placer) (vs : List Val) (rs : List (ℕ × List ℕ)) (blocks : List (List ℕ)) (root : ℕ)
    → PutsValues heap0 heap1 p0 p1 vs rs → Makes heap1 heap2 root 2 6 rs → IsHeap blocks 0xBC root → ((hid : ℕ) → item blocks hid ≡ item_in heap2 hid) → WritesFields blocks vs
written-fields heap0 heap1 heap2 p0 p1 vs rs blocks root s m heap items = record {
  root = root;
  heap = heap;
  records = rs;
  tree = bth-kept (item_in heap2) (item blocks) root 2 6 rs (λ hid x e. items hid ∙ e) m.tree;
  plain = s.plain;
}

pub written-long : (heap0 heap1 : List (List (List ℕ))) (p0 p1 : Placer) (vs : List Val) (rs : List (ℕ × List ℕ)) (rest subs : List Flat) → PutsValues heap0 heap1 p0 p1 vs rs → Placing p0 [] rest
    → subs ≡ flattened (p1.placed.items ++ p1.left.items) → AddsLong vs rest subs
written-long heap0 heap1 p0 p1 vs rs rest subs s placing is =
    let placed = s.grows.placing [] rest placing in
    let all = placed-all p1 s.added rest placed in
    rw is (record {
      long = s.added;
      bytes = s.bytes;
      kind = placed.kind;
      new = λ nid h. ap (λ (fs : List Flat). data_of fs nid) (sym all.1) ∙ data-without (is_id s.added) false (flattened (p1.placed.items ++ p1.left.items)) nid h;
      long_is = all.0;
      rest_is = all.1;
      ascend = all.2;
    })

-- ---- how many there are

ascend-take : (low n : ℕ) (vs : List Val) → ascend_from low vs ≡ true → ascend_from low (take n vs) ≡ true
ascend-take low zero vs h = refl
ascend-take low (suc n) [] h = refl
ascend-take low (suc n) (v ∷ vs) h =
    let p = and_parts (nat_le low v.id) (ascend_from (suc v.id) vs) h in
    and_from (nat_le low v.id) (ascend_from (suc v.id) (take n vs)) p.0 (ascend-take (suc v.id) n vs p.1)

-- ids are below 65,536, so the first of values that ascend are not more
pub few-values : (h h1 : List (List (List ℕ))) (p p1 : Placer) (n : ℕ) (vs : List Val) (rs : List (ℕ × List ℕ)) → PutsValues h h1 p p1 (take n vs) rs → ascend_from 0 vs ≡ true → length rs ≤ 65536
few-values h h1 p p1 n vs rs s a =
    omega (arith, few-records 0 (2 ^ 32) rs (omega arith) s.records (records-ascend h h1 p p1 (take n vs) rs s (ascend-take 0 n vs a)))

-- and their heap has half as many blocks
pub few-blocks : (h1 : List (List (List ℕ))) (p p1 : Placer) (n : ℕ) (vs : List Val) (rs : List (ℕ × List ℕ)) → PutsValues ([] ∷ []) h1 p p1 (take n vs) rs → IsPacked h1 → ascend_from 0 vs ≡ true → length h1 ≤ 32769
few-blocks h1 p p1 n vs rs s packed a =
    omega (arith, two-a_block h1 (0 + length (take n vs)) packed (s.grows.holds 0 holds-none), s.count, few-values ([] ∷ []) h1 p p1 n vs rs s a)
