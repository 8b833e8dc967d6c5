-- Trees of pages, taken apart and put together.
use Rattle.std.proofs.Common.{◌≡◌, ℕ, zero, suc, ◌+◌, ◌≤◌, List, [], ◌∷◌, ◌++◌, map, refl, sym, ap, subst, ◌∙◌, arith, append_assoc, Option}
use Rattle.std.proofs.lemmas.List.{append-nil}
use Rattle.pst_base.specs.declared.ids.Bref.{Bref}
use Rattle.tree_edit.specs.Shapes.{Shape, RiseIn, heads, up_to, AreBelow, IsTree}

-- what holds of a range of keys holds of a wider one
abbrev pub Raises : {E : Type 0} → (ℕ → ℕ → Bref → List E → List Bref → Type 0) → Type 0
Raises {E} P = (low high high' : ℕ) (at : Bref) (es : List E) (ps : List Bref) → high ≤ high' → P low high at es ps → P low high' at es ps

pub rise-widen : (low high low' high' : ℕ) (ks : List ℕ) → RiseIn low high ks → low' ≤ low → high ≤ high' → RiseIn low' high' ks
rise-widen low high low' high' [] r a b = tt
rise-widen low high low' high' (k ∷ ks) r a b =
    let x = r.0 in let y = r.1 in (omega arith, omega arith, rise-widen (k + 1) high (k + 1) high' ks r.2 (omega arith) b)

pub rise-join : (low h m high : ℕ) (xs ys : List ℕ) → RiseIn low h xs → RiseIn m high ys → h ≤ m → low ≤ m → h ≤ high → RiseIn low high (xs ++ ys)
rise-join low h m high [] ys r s a b c = rise-widen m high low high ys s b (omega arith)
rise-join low h m high (k ∷ ks) ys r s a b c =
    let x = r.0 in let y = r.1 in (x, omega arith, rise-join (k + 1) h m high ks ys r.2 s a (omega arith) c)

pub map-join : {A B : Type 0} (f : A → B) (xs ys : List A) → map f (xs ++ ys) ≡ map f xs ++ map f ys
map-join f [] ys = refl
map-join f (x ∷ xs) ys = ap (λ (l : List _). f x ∷ l) (map-join f xs ys)

pub below-raise : {E : Type 0} (P : ℕ → ℕ → Bref → List E → List Bref → Type 0) → Raises P → (high high' : ℕ) (cs : List (ℕ × Bref)) (es : List E) (ps : List Bref)
    → high ≤ high' → AreBelow P high cs es ps → AreBelow P high' cs es ps
below-raise P raise high high' [] es ps le b = b
below-raise P raise high high' (c ∷ []) es ps le b = record {
  first = b.first;
  later = b.later;
  first_pages = b.first_pages;
  later_pages = b.later_pages;
  one = raise c.0 high high' c.1 b.first b.first_pages le b.one;
  rest = b.rest;
  entries = b.entries;
  pages = b.pages;
}
below-raise P raise high high' (c ∷ (d ∷ cs)) es ps le b = record {
  first = b.first;
  later = b.later;
  first_pages = b.first_pages;
  later_pages = b.later_pages;
  one = b.one;
  rest = below-raise P raise high high' (d ∷ cs) b.later b.later_pages le b.rest;
  entries = b.entries;
  pages = b.pages;
}

pub below-append : {E : Type 0} (P : ℕ → ℕ → Bref → List E → List Bref → Type 0) → Raises P → (h high : ℕ) (cs ds : List (ℕ × Bref)) (es fs : List E) (ps qs : List Bref)
    → h ≤ up_to high ds → AreBelow P h cs es ps → AreBelow P high ds fs qs → AreBelow P high (cs ++ ds) (es ++ fs) (ps ++ qs)
below-append P raise h high [] ds es fs ps qs le a b =
    subst (λ (l : List _). AreBelow P high ds (l ++ fs) (ps ++ qs)) (sym a.0) (subst (λ (l : List Bref). AreBelow P high ds fs (l ++ qs)) (sym a.1) b)
below-append P raise h high (c ∷ []) ds es fs ps qs le a b = record {
  first = a.first;
  later = fs;
  first_pages = a.first_pages;
  later_pages = qs;
  one = raise c.0 h (up_to high ds) c.1 a.first a.first_pages le a.one;
  rest = b;
  entries = ap (λ (l : List _). l ++ fs) (a.entries ∙ ap (λ (l : List _). a.first ++ l) a.rest.0 ∙ append-nil a.first);
  pages = ap (λ (l : List Bref). l ++ qs) (a.pages ∙ ap (λ (l : List Bref). a.first_pages ++ l) a.rest.1 ∙ append-nil a.first_pages);
}
below-append P raise h high (c ∷ (d ∷ cs)) ds es fs ps qs le a b = record {
  first = a.first;
  later = a.later ++ fs;
  first_pages = a.first_pages;
  later_pages = a.later_pages ++ qs;
  one = a.one;
  rest = below-append P raise h high (d ∷ cs) ds a.later fs a.later_pages qs le a.rest b;
  entries = ap (λ (l : List _). l ++ fs) a.entries ∙ append_assoc a.first a.later fs;
  pages = ap (λ (l : List Bref). l ++ qs) a.pages ∙ append_assoc a.first_pages a.later_pages qs;
}

-- some children, and those after them
pub record Parted {E : Type 0} (P : ℕ → ℕ → Bref → List E → List Bref → Type 0) (high : ℕ) (cs ds : List (ℕ × Bref)) (es : List E) (ps : List Bref) : Type 0 where
  pub before : List E
  pub behind : List E
  pub before_pages : List Bref
  pub behind_pages : List Bref
  pub here : AreBelow P (up_to high ds) cs before before_pages
  pub there : AreBelow P high ds behind behind_pages
  pub entries : es ≡ before ++ behind
  pub pages : ps ≡ before_pages ++ behind_pages

pub below-part : {E : Type 0} (P : ℕ → ℕ → Bref → List E → List Bref → Type 0) (high : ℕ) (cs ds : List (ℕ × Bref)) (es : List E) (ps : List Bref)
    → AreBelow P high (cs ++ ds) es ps → Parted P high cs ds es ps
below-part P high [] ds es ps a =
    record { before = []; behind = es; before_pages = []; behind_pages = ps; here = (refl, refl); there = a; entries = refl; pages = refl }
below-part P high (c ∷ []) ds es ps a = record {
  before = a.first;
  behind = a.later;
  before_pages = a.first_pages;
  behind_pages = a.later_pages;
  here = record { first = a.first; later = []; first_pages = a.first_pages; later_pages = []; one = a.one; rest = (refl, refl); entries = sym (append-nil a.first); pages = sym (append-nil a.first_pages) };
  there = a.rest;
  entries = a.entries;
  pages = a.pages;
}
below-part P high (c ∷ (d ∷ cs)) ds es ps a =
    let more = below-part P high (d ∷ cs) ds a.later a.later_pages a.rest in
    record {
      before = a.first ++ more.before;
      behind = more.behind;
      before_pages = a.first_pages ++ more.before_pages;
      behind_pages = more.behind_pages;
      here = record { first = a.first; later = more.before; first_pages = a.first_pages; later_pages = more.before_pages; one = a.one; rest = more.here; entries = refl; pages = refl };
      there = more.there;
      entries = a.entries ∙ ap (λ (l : List _). a.first ++ l) more.entries ∙ sym (append_assoc a.first more.before more.behind);
      pages = a.pages ∙ ap (λ (l : List Bref). a.first_pages ++ l) more.pages ∙ sym (append_assoc a.first_pages more.before_pages more.behind_pages);
    }

-- what rises in each part rises in the whole
pub below-rise : {E : Type 0} (P : ℕ → ℕ → Bref → List E → List Bref → Type 0) (key : E → ℕ)
    → ((low high : ℕ) (at : Bref) (es : List E) (ps : List Bref) → P low high at es ps → RiseIn low high (map key es))
    → (low high : ℕ) (cs : List (ℕ × Bref)) (es : List E) (ps : List Bref) → RiseIn low high (heads cs) → AreBelow P high cs es ps → RiseIn low high (map key es)
below-rise P key each low high [] es ps r a = subst (λ (l : List _). RiseIn low high (map key l)) (sym a.0) tt
below-rise P key each low high (c ∷ []) es ps r a =
    subst (λ (l : List _). RiseIn low high (map key l)) (sym (a.entries ∙ ap (λ (l : List _). a.first ++ l) a.rest.0 ∙ append-nil a.first))
    (rise-widen c.0 high low high (map key a.first) (each c.0 high c.1 a.first a.first_pages a.one) r.0 (omega arith))
below-rise P key each low high (c ∷ (d ∷ cs)) es ps r a =
    let s = r.2 in
    let x = r.0 in let y = s.0 in let z = s.1 in
    let front = each c.0 d.0 c.1 a.first a.first_pages a.one in
    let back = below-rise P key each d.0 high (d ∷ cs) a.later a.later_pages (omega arith, z, s.2) a.rest in
    subst (λ (l : List _). RiseIn low high (map key l)) (sym a.entries) (subst (RiseIn low high) (sym (map-join key a.first a.later))
    (rise-join low d.0 d.0 high (map key a.first) (map key a.later) (rise-widen c.0 d.0 low d.0 (map key a.first) front x (omega arith)) back (omega arith) (omega arith) (omega arith)))

pub tree-rise : {E : Type 0} (find : Bref → Option (Shape E)) (key : E → ℕ) (n low high : ℕ) (at : Bref) (es : List E) (ps : List Bref) → IsTree find key n low high at es ps → RiseIn low high (map key es)
tree-rise find key zero low high at es ps t = t.rises
tree-rise find key (suc n) low high at es ps t =
    below-rise (IsTree find key n) key (λ low high at es ps. tree-rise find key n low high at es ps) low high t.children es t.below t.rises t.are

pub tree-widen : {E : Type 0} (find : Bref → Option (Shape E)) (key : E → ℕ) (n low high low' high' : ℕ) (at : Bref) (es : List E) (ps : List Bref) → low' ≤ low → high ≤ high'
    → IsTree find key n low high at es ps → IsTree find key n low' high' at es ps
tree-widen find key zero low high low' high' at es ps a b t = record { shown = t.shown; rises = rise-widen low high low' high' (map key es) t.rises a b; some = t.some; alone = t.alone }
tree-widen find key (suc n) low high low' high' at es ps a b t = record {
  children = t.children;
  below = t.below;
  shown = t.shown;
  rises = rise-widen low high low' high' (heads t.children) t.rises a b;
  some = t.some;
  are = below-raise (IsTree find key n) (λ l h h' at es ps le p. tree-widen find key n l h l h' at es ps (omega arith) le p) high high' t.children es t.below b t.are;
  first = t.first;
}

-- keys before one, and that one with those after it
pub rise-part : (low high y : ℕ) (xs ys : List ℕ) → RiseIn low high (xs ++ (y ∷ ys)) → RiseIn low y xs × (low ≤ y) × RiseIn y high (y ∷ ys)
rise-part low high y [] ys r = let x = r.0 in let z = r.1 in (tt, omega arith, (omega arith, z, r.2))
rise-part low high y (k ∷ xs) ys r =
    let x = r.0 in
    let more = rise-part (k + 1) high y xs ys r.2 in
    let z = more.1 in
    ((x, omega arith, more.0), omega arith, more.2)
