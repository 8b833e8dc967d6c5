-- New pages, one by one, and parts of a tree one behind the other.
use Rattle.std.proofs.Common.{◌≡◌, ℕ, zero, suc, ◌+◌, ◌≤◌, ◌<◌, ◌==◌, if◌then◌else◌, List, [], ◌∷◌, ◌++◌, map, length, refl, sym, ap, subst, ◌∙◌, arith, append_assoc, length-append, Option, Some}
use Rattle.std.proofs.lemmas.List.{append-nil}
use Rattle.pst_base.specs.declared.ids.Bref.{Bref}
use Rattle.tree_edit.specs.declared.plan.Child.{Child}
use Rattle.tree_edit.specs.declared.plan.Child.TheVariants.{New}
use Rattle.tree_edit.specs.declared.plan.PlanPage.{PlanPage}
use Rattle.tree_edit.specs.Shapes.{Shape, leaf, inner, RiseIn, heads, up_to, AreBelow, HasLeaf, HasInner, IsTree}
use Rattle.tree_edit.specs.Plans.{resolve, resolved, keys_of, shape_in, AreShown, names, AreKept, tally}
use Rattle.tree_edit.specs.Steps.{Lays, Packs}
use Rattle.tree_edit.proofs.ShapeLaws.{Raises, map-join, rise-join, rise-part, below-append, below-part, Parted, tree-widen}

-- ---- lists one behind the other

pub shown-join : {E : Type 0} (after : Bref → Option (Shape E)) (name : ℕ → Bref) (from : ℕ) (xs ys : List (PlanPage E)) → AreShown after name from (xs ++ ys)
    → AreShown after name from xs × AreShown after name (from + length xs) ys
shown-join after name from [] ys s = let e : from ≡ from + 0 = omega arith in (tt, subst (λ (n : ℕ). AreShown after name n ys) e s)
shown-join after name from (x ∷ xs) ys s =
    let more = shown-join after name (from + 1) xs ys s.1 in
    let e : from + 1 + length xs ≡ from + suc (length xs) = omega arith in
    ((s.0, more.0), subst (λ (n : ℕ). AreShown after name n ys) e more.1)

pub names-join : {E : Type 0} (name : ℕ → Bref) (from : ℕ) (xs ys : List (PlanPage E)) → names name from (xs ++ ys) ≡ names name from xs ++ names name (from + length xs) ys
names-join name from [] ys = let e : from ≡ from + 0 = omega arith in ap (λ (n : ℕ). names name n ys) e
names-join name from (x ∷ xs) ys =
    let e : from + 1 + length xs ≡ from + suc (length xs) = omega arith in
    ap (λ (l : List Bref). name from ∷ l) (names-join name (from + 1) xs ys ∙ ap (λ (n : ℕ). names name (from + 1) xs ++ names name n ys) e)

pub tally-join : (ib : ℕ) (xs ys : List Bref) → tally ib (xs ++ ys) ≡ tally ib xs + tally ib ys
tally-join ib [] ys = omega arith
tally-join ib (x ∷ xs) ys = let e = tally-join ib xs ys in let one : ℕ = if x.ib == ib then 1 else 0 in let f : one + tally ib (xs ++ ys) ≡ one + tally ib xs + tally ib ys = omega arith in f

pub kept-join : {E : Type 0} (old new : Bref → Option (Shape E)) (xs ys : List Bref) → AreKept old new (xs ++ ys) → AreKept old new xs × AreKept old new ys
kept-join old new [] ys k = (tt, k)
kept-join old new (x ∷ xs) ys k = let more = kept-join old new xs ys k.1 in ((k.0, more.0), more.1)

heads-resolved : (name : ℕ → Bref) (cs : List (ℕ × Child)) → heads (resolved name cs) ≡ keys_of cs
heads-resolved name [] = refl
heads-resolved name (c ∷ cs) = ap (λ (l : List ℕ). c.0 ∷ l) (heads-resolved name cs)

pub up_to-low : (name : ℕ → Bref) (low high : ℕ) (cs : List (ℕ × Child)) → RiseIn low high (keys_of cs) → low ≤ high → low ≤ up_to high (resolved name cs)
up_to-low name low high [] r le = le
up_to-low name low high (c ∷ cs) r le = r.0

-- ---- a tree whose pages are kept

pub below-kept : {E : Type 0} (old new : Bref → Option (Shape E)) (P Q : ℕ → ℕ → Bref → List E → List Bref → Type 0)
    → ((low high : ℕ) (at : Bref) (es : List E) (ps : List Bref) → AreKept old new ps → P low high at es ps → Q low high at es ps)
    → (high : ℕ) (cs : List (ℕ × Bref)) (es : List E) (ps : List Bref) → AreKept old new ps → AreBelow P high cs es ps → AreBelow Q high cs es ps
below-kept old new P Q each high [] es ps k a = a
below-kept old new P Q each high (c ∷ cs) es ps k a =
    let both = kept-join old new a.first_pages a.later_pages (subst (AreKept old new) a.pages k) in
    record {
      first = a.first;
      later = a.later;
      first_pages = a.first_pages;
      later_pages = a.later_pages;
      one = each c.0 (up_to high cs) c.1 a.first a.first_pages both.0 a.one;
      rest = below-kept old new P Q each high cs a.later a.later_pages both.1 a.rest;
      entries = a.entries;
      pages = a.pages;
    }

pub tree-kept : {E : Type 0} (old new : Bref → Option (Shape E)) (key : E → ℕ) (n low high : ℕ) (at : Bref) (es : List E) (ps : List Bref) → AreKept old new ps
    → IsTree old key n low high at es ps → IsTree new key n low high at es ps
tree-kept old new key zero low high at es ps k t =
    record { shown = (subst (AreKept old new) t.alone k).0 ∙ t.shown; rises = t.rises; some = t.some; alone = t.alone }
tree-kept old new key (suc n) low high at es ps k t =
    let both = subst (AreKept old new) t.first k in
    record {
      children = t.children;
      below = t.below;
      shown = both.0 ∙ t.shown;
      rises = t.rises;
      some = t.some;
      are = below-kept old new (IsTree old key n) (IsTree new key n) (λ low high at es ps k t. tree-kept old new key n low high at es ps k t) high t.children es t.below both.1 t.are;
      first = t.first;
    }

-- ---- one page more

pub raises : {E : Type 0} (find : Bref → Option (Shape E)) (key : E → ℕ) (n : ℕ) → Raises (IsTree find key n)
raises find key n low high high' at es ps le t = tree-widen find key n low high low high' at es ps (omega arith) le t

pub resolved-join : (name : ℕ → Bref) (cs ds : List (ℕ × Child)) → resolved name (cs ++ ds) ≡ resolved name cs ++ resolved name ds
resolved-join name cs ds = map-join (λ (c : ℕ × Child). (c.0, resolve name c.1)) cs ds

pub keys-join : (cs ds : List (ℕ × Child)) → keys_of (cs ++ ds) ≡ keys_of cs ++ keys_of ds
keys-join cs ds = map-join (λ (c : ℕ × Child). c.0) cs ds

-- one tree behind others
alone-below : {E : Type 0} (P : ℕ → ℕ → Bref → List E → List Bref → Type 0) → Raises P → (h high k : ℕ) (cs : List (ℕ × Bref)) (at : Bref) (es fs : List E) (ps qs : List Bref)
    → h ≤ k → AreBelow P h cs es ps → P k high at fs qs → AreBelow P high (cs ++ ((k, at) ∷ [])) (es ++ fs) (ps ++ qs)
alone-below P raise h high k cs at es fs ps qs le a p =
    below-append P raise h high cs ((k, at) ∷ []) es fs ps qs le a
    (record { first = fs; later = []; first_pages = qs; later_pages = []; one = p; rest = (refl, refl); entries = sym (append-nil fs); pages = sym (append-nil qs) })

-- keys behind others
key-more : (low high k : ℕ) (ks : List ℕ) → RiseIn low k ks → low ≤ k → k < high → RiseIn low high (ks ++ (k ∷ []))
key-more low high k ks r le less = rise-join low k k high ks (k ∷ []) r (omega arith, less, tt) (omega arith) le (omega arith)

pub lays-start : {E : Type 0} (key : E → ℕ) (pages : List (PlanPage E)) → Lays key pages pages [] []
lays-start key pages = record {
  more = [];
  pages = sym (append-nil pages);
  rises = λ low high r. tt;
  tree = λ after name low high s r. ([], (refl, refl), λ ib. refl);
}

pub lays-next : {E : Type 0} (key : E → ℕ) (old pages next : List (PlanPage E)) (cs ds : List (ℕ × Child)) (done : List E) (e : E) (es : List E) (page : PlanPage E) (k : ℕ) → Lays key old pages cs done
    → next ≡ pages ++ (page ∷ []) → ds ≡ cs ++ ((k, New (length pages)) ∷ []) → k ≡ key e → ((name : ℕ → Bref) → shape_in name page ≡ leaf (e ∷ es)) → Lays key old next ds (done ++ (e ∷ es))
lays-next {E} key old pages next cs ds done e es page k lays grown named first shows = record {
  more = lays.more ++ (page ∷ []);
  pages = grown ∙ ap (λ (l : List (PlanPage E)). l ++ (page ∷ [])) lays.pages ∙ append_assoc old lays.more (page ∷ []);
  rises = λ low high r.
      let parts = rise-part low high (key e) (map key done) (map key es) (subst (RiseIn low high) (map-join key done (e ∷ es)) r) in
      let le = parts.1 in
      let less = parts.2.1 in
      subst (λ (l : List (ℕ × Child)). RiseIn low high (keys_of l)) (sym named) (subst (RiseIn low high) (sym (keys-join cs ((k, New (length pages)) ∷ [])))
      (key-more low high k (keys_of cs) (subst (λ (n : ℕ). RiseIn low n (keys_of cs)) (sym first) (lays.rises low (key e) parts.0)) (omega arith) (omega arith)));
  tree = λ after name low high s r.
      let parts = rise-part low high (key e) (map key done) (map key es) (subst (RiseIn low high) (map-join key done (e ∷ es)) r) in
      let both = shown-join after name (length old) lays.more (page ∷ []) s in
      let so_far = lays.tree after name low (key e) both.0 parts.0 in
      let where_it_is : length old + length lays.more ≡ length pages = let f = ap (λ (l : List (PlanPage E)). length l) lays.pages ∙ length-append old lays.more in omega (arith, f) in
      let one : HasLeaf after key 1 k high (name (length pages)) (e ∷ es) (name (length pages) ∷ []) = record {
        shown = subst (λ (n : ℕ). after (name n) ≡ Some (leaf (e ∷ es))) where_it_is (both.1.0 ∙ ap Some (shows name));
        rises = subst (λ (n : ℕ). RiseIn n high (map key (e ∷ es))) (sym first) parts.2;
        some = omega arith;
        alone = refl;
      } in
      let all = alone-below (IsTree after key 0) (raises after key 0) (key e) high k (resolved name cs) (name (length pages)) done (e ∷ es) so_far.0 (name (length pages) ∷ []) (omega arith) so_far.1 one in
      let same : resolved name ds ≡ resolved name cs ++ ((k, name (length pages)) ∷ []) = ap (resolved name) named ∙ resolved-join name cs ((k, New (length pages)) ∷ []) in (
        so_far.0 ++ (name (length pages) ∷ []),
        subst (λ (l : List (ℕ × Bref)). AreBelow (IsTree after key 0) high l (done ++ (e ∷ es)) (so_far.0 ++ (name (length pages) ∷ []))) (sym same) all,
        λ ib.
            let a = tally-join ib so_far.0 (name (length pages) ∷ []) in
            let b = so_far.2 ib in
            let c : tally ib (names name (length old) (lays.more ++ (page ∷ []))) ≡ tally ib (names name (length old) lays.more) + tally ib (name (length pages) ∷ []) =
            ap (tally ib) (names-join name (length old) lays.more (page ∷ [])) ∙ tally-join ib (names name (length old) lays.more) (names name (length old + length lays.more) (page ∷ []))
            ∙ ap (λ (n : ℕ). tally ib (names name (length old) lays.more) + tally ib (name n ∷ [])) where_it_is in
            a ∙ ap (λ (n : ℕ). n + tally ib (name (length pages) ∷ [])) b ∙ sym c,
      );
}

pub packs-start : {E : Type 0} (key : E → ℕ) (n : ℕ) (pages : List (PlanPage E)) → Packs key n pages pages [] []
packs-start key n pages = record {
  more = [];
  pages = sym (append-nil pages);
  rises = λ low high r. tt;
  tree = λ after name low high es ps s r a. ([], (a.0, refl), λ ib. let e = ap (tally ib) a.1 in omega (arith, e));
}

pub packs-next : {E : Type 0} (key : E → ℕ) (n : ℕ) (old pages next : List (PlanPage E)) (done cs ds : List (ℕ × Child)) (c : ℕ × Child) (more : List (ℕ × Child)) (page : PlanPage E) (k : ℕ) → Packs key n old pages done cs
    → next ≡ pages ++ (page ∷ []) → ds ≡ cs ++ ((k, New (length pages)) ∷ []) → k ≡ c.0 → ((name : ℕ → Bref) → shape_in name page ≡ inner (suc n) (resolved name (c ∷ more))) → Packs key n old next (done ++ (c ∷ more)) ds
packs-next {E} key n old pages next done cs ds c more page k packs grown named first shows = record {
  more = packs.more ++ (page ∷ []);
  pages = grown ∙ ap (λ (l : List (PlanPage E)). l ++ (page ∷ [])) packs.pages ∙ append_assoc old packs.more (page ∷ []);
  rises = λ low high r.
      let parts = rise-part low high c.0 (keys_of done) (keys_of more) (subst (RiseIn low high) (keys-join done (c ∷ more)) r) in
      let le = parts.1 in
      let less = parts.2.1 in
      subst (λ (l : List (ℕ × Child)). RiseIn low high (keys_of l)) (sym named) (subst (RiseIn low high) (sym (keys-join cs ((k, New (length pages)) ∷ [])))
      (key-more low high k (keys_of cs) (subst (λ (m : ℕ). RiseIn low m (keys_of cs)) (sym first) (packs.rises low c.0 parts.0)) (omega arith) (omega arith)));
  tree = λ after name low high es ps s r a.
      let parts = rise-part low high c.0 (keys_of done) (keys_of more) (subst (RiseIn low high) (keys-join done (c ∷ more)) r) in
      let both = shown-join after name (length old) packs.more (page ∷ []) s in
      let split : Parted (IsTree after key n) high (resolved name done) (resolved name (c ∷ more)) es ps =
      below-part (IsTree after key n) high (resolved name done) (resolved name (c ∷ more)) es ps (subst (λ (l : List (ℕ × Bref)). AreBelow (IsTree after key n) high l es ps) (resolved-join name done (c ∷ more)) a) in
      let so_far = packs.tree after name low c.0 split.before split.before_pages both.0 parts.0 split.here in
      let where_it_is : length old + length packs.more ≡ length pages = let f = ap (λ (l : List (PlanPage E)). length l) packs.pages ∙ length-append old packs.more in omega (arith, f) in
      let at : Bref = name (length pages) in
      let one : HasInner after (IsTree after key n) (suc n) 1 k high at split.behind (at ∷ split.behind_pages) = record {
        children = resolved name (c ∷ more);
        below = split.behind_pages;
        shown = subst (λ (m : ℕ). after (name m) ≡ Some (inner (suc n) (resolved name (c ∷ more)))) where_it_is (both.1.0 ∙ ap Some (shows name));
        rises = subst (λ (m : ℕ). RiseIn m high (heads (resolved name (c ∷ more)))) (sym first) (subst (RiseIn c.0 high) (sym (heads-resolved name (c ∷ more))) parts.2);
        some = omega arith;
        are = split.there;
        first = refl;
      } in
      let all = alone-below (IsTree after key (suc n)) (raises after key (suc n)) c.0 high k (resolved name cs) at split.before split.behind so_far.0 (at ∷ split.behind_pages) (omega arith) so_far.1 one in
      let same : resolved name ds ≡ resolved name cs ++ ((k, at) ∷ []) = ap (resolved name) named ∙ resolved-join name cs ((k, New (length pages)) ∷ []) in
      let qs : List Bref = so_far.0 ++ (at ∷ split.behind_pages) in (
        qs,
        subst (λ (l : List E). AreBelow (IsTree after key (suc n)) high (resolved name ds) l qs) (sym split.entries)
            (subst (λ (l : List (ℕ × Bref)). AreBelow (IsTree after key (suc n)) high l (split.before ++ split.behind) qs) (sym same) all),
        λ ib.
            let a = tally-join ib so_far.0 (at ∷ split.behind_pages) in
            let b = so_far.2 ib in
            let d = ap (tally ib) split.pages ∙ tally-join ib split.before_pages split.behind_pages in
            let f = tally-join ib (at ∷ []) split.behind_pages in
            let e : tally ib (names name (length old) (packs.more ++ (page ∷ []))) ≡ tally ib (names name (length old) packs.more) + tally ib (at ∷ []) =
            ap (tally ib) (names-join name (length old) packs.more (page ∷ [])) ∙ tally-join ib (names name (length old) packs.more) (names name (length old + length packs.more) (page ∷ []))
            ∙ ap (λ (m : ℕ). tally ib (names name (length old) packs.more) + tally ib (name m ∷ [])) where_it_is in
            sums (tally ib qs) (tally ib so_far.0) (tally ib (at ∷ split.behind_pages)) (tally ib split.before_pages) (tally ib (names name (length old) packs.more)) (tally ib ps) (tally ib split.behind_pages)
            (tally ib (at ∷ [])) (tally ib (names name (length old) (packs.more ++ (page ∷ [])))) a b d f e,
      );
}
  where
    sums : (q s x b m p h o n : ℕ) → q ≡ s + x → s ≡ b + m → p ≡ b + h → x ≡ o + h → n ≡ m + o → q ≡ p + n
    sums q s x b m p h o n a c d f e = omega arith
