-- Parts of a tree that are replaced, in any order, and what they come to.
use Rattle.std.proofs.Common.{◌≡◌, ℕ, zero, suc, ◌+◌, ◌*◌, ◌≤◌, List, [], ◌++◌, map, length, refl, sym, ap, subst, ◌∙◌, arith, append_assoc, length-append, Option, Some, None}
use Rattle.std.proofs.lemmas.List.{append-nil}
use Rattle.std.proofs.lemmas.Nat.{mul-le}
use Rattle.pst_base.specs.declared.ids.Bref.{Bref}
use Rattle.tree_edit.specs.declared.page.Seat.{Seat}
use Rattle.tree_edit.specs.declared.plan.Child.{Child}
use Rattle.tree_edit.specs.declared.plan.PlanPage.{PlanPage}
use Rattle.tree_edit.specs.Shapes.{Shape, RiseIn, AreBelow, IsTree}
use Rattle.tree_edit.specs.Plans.{resolved, keys_of, AreKeys, AreShown, names, tally}
use Rattle.tree_edit.specs.Joins.{StandsFor, Makes, Settles, kept_child}
use Rattle.tree_edit.specs.Steps.{Becomes, Lays, Packs, Replaces}
use Rattle.tree_edit.proofs.CountLaws.{inner-fits, size-inner}
use Rattle.tree_edit.proofs.ShapeLaws.{below-append, rise-widen}
use Rattle.tree_edit.proofs.PlanLaws.{shown-join, names-join, tally-join, kept-join, resolved-join, raises, up_to-low}
use Rattle.tree_edit.proofs.EachLaws.{replaces-start, replaces-kept}

-- ---- two parts, and new pages of one

pub becomes-and : {E : Type 0} (find : Bref → Option (Shape E)) (P Q R : (Bref → Option (Shape E)) → (ℕ → Bref) → List E → List Bref → Type 0) (old mid new : List (PlanPage E)) (freed between gone : List Bref) (es fs gs : List E) (ps qs rs : List Bref)
    → ((ib : ℕ) → tally ib rs ≡ tally ib ps + tally ib qs)
    → ((after : Bref → Option (Shape E)) (name : ℕ → Bref) (xs ys : List Bref) → P after name es xs → Q after name fs ys → (zs : List Bref) × R after name gs zs × ((ib : ℕ) → tally ib zs ≡ tally ib xs + tally ib ys))
    → Becomes find P old mid freed between es ps → Becomes find Q mid new between gone fs qs → Becomes find R old new freed gone gs rs
becomes-and {E} find P Q R old mid new freed between gone es fs gs ps qs rs pages both r t = record {
  more = r.more ++ t.more;
  gone = r.gone ++ t.gone;
  kept = r.kept ++ t.kept;
  pages = t.pages ∙ ap (λ (l : List (PlanPage E)). l ++ t.more) r.pages ∙ append_assoc old r.more t.more;
  freed = t.freed ∙ ap (λ (l : List Bref). l ++ t.gone) r.freed ∙ append_assoc freed r.gone t.gone;
  counted = λ ib.
      let a = r.counted ib in
      let b = t.counted ib in
      let c = tally-join ib r.kept t.kept in
      let d = tally-join ib r.gone t.gone in
      let e = pages ib in
      gone_sum (tally ib r.kept) (tally ib r.gone) (tally ib ps) (tally ib t.kept) (tally ib t.gone) (tally ib qs) (tally ib (r.kept ++ t.kept)) (tally ib (r.gone ++ t.gone)) (tally ib rs) a b c d e;
  tree = λ after name k s.
      let shown = shown-join after name (length old) r.more t.more s in
      let keeps = kept-join find after r.kept t.kept k in
      let one = r.tree after name keeps.0 shown.0 in
      let where_it_is : length old + length r.more ≡ length mid = let f = ap (λ (l : List (PlanPage E)). length l) r.pages ∙ length-append old r.more in omega (arith, f) in
      let two = t.tree after name keeps.1 (subst (λ (m : ℕ). AreShown after name m t.more) where_it_is shown.1) in
      let three = both after name one.0 two.0 one.1 two.1 in (
        three.0,
        three.1,
        λ ib.
            let a = one.2 ib in
            let b = two.2 ib in
            let c : tally ib (names name (length old) (r.more ++ t.more)) ≡ tally ib (names name (length old) r.more) + tally ib (names name (length mid) t.more) =
            ap (tally ib) (names-join name (length old) r.more t.more) ∙ tally-join ib (names name (length old) r.more) (names name (length old + length r.more) t.more)
            ∙ ap (λ (m : ℕ). tally ib (names name (length old) r.more) + tally ib (names name m t.more)) where_it_is in
            let d = tally-join ib r.kept t.kept in
            let e = three.2 ib in
            new_sum (tally ib one.0) (tally ib two.0) (tally ib r.kept) (tally ib t.kept) (tally ib (names name (length old) r.more)) (tally ib (names name (length mid) t.more)) (tally ib three.0) (tally ib (r.kept ++ t.kept))
            (tally ib (names name (length old) (r.more ++ t.more))) a b c d e,
      );
}
  where
    gone_sum : (k g p l h q kl gh pq : ℕ) → k + g ≡ p → l + h ≡ q → kl ≡ k + l → gh ≡ g + h → pq ≡ p + q → kl + gh ≡ pq
    gone_sum k g p l h q kl gh pq a b c d e = omega arith

    new_sum : (x y k l m n xy kl mn : ℕ) → x ≡ k + m → y ≡ l + n → mn ≡ m + n → kl ≡ k + l → xy ≡ x + y → xy ≡ kl + mn
    new_sum x y k l m n xy kl mn a b c d e = omega arith

pub becomes-new : {E : Type 0} (find : Bref → Option (Shape E)) (P R : (Bref → Option (Shape E)) → (ℕ → Bref) → List E → List Bref → Type 0) (old mid new more : List (PlanPage E)) (freed gone : List Bref) (es gs : List E) (ps : List Bref)
    → new ≡ mid ++ more
    → ((after : Bref → Option (Shape E)) (name : ℕ → Bref) (xs : List Bref) → AreShown after name (length mid) more → P after name es xs
    → (zs : List Bref) × R after name gs zs × ((ib : ℕ) → tally ib zs ≡ tally ib xs + tally ib (names name (length mid) more)))
    → Becomes find P old mid freed gone es ps → Becomes find R old new freed gone gs ps
becomes-new {E} find P R old mid new more freed gone es gs ps grown make r = record {
  more = r.more ++ more;
  gone = r.gone;
  kept = r.kept;
  pages = grown ∙ ap (λ (l : List (PlanPage E)). l ++ more) r.pages ∙ append_assoc old r.more more;
  freed = r.freed;
  counted = r.counted;
  tree = λ after name k s.
      let shown = shown-join after name (length old) r.more more s in
      let one = r.tree after name k shown.0 in
      let where_it_is : length old + length r.more ≡ length mid = let f = ap (λ (l : List (PlanPage E)). length l) r.pages ∙ length-append old r.more in omega (arith, f) in
      let two = make after name one.0 (subst (λ (m : ℕ). AreShown after name m more) where_it_is shown.1) one.1 in (
        two.0,
        two.1,
        λ ib.
            let a = one.2 ib in
            let b = two.2 ib in
            let c : tally ib (names name (length old) (r.more ++ more)) ≡ tally ib (names name (length old) r.more) + tally ib (names name (length mid) more) =
            ap (tally ib) (names-join name (length old) r.more more) ∙ tally-join ib (names name (length old) r.more) (names name (length old + length r.more) more)
            ∙ ap (λ (m : ℕ). tally ib (names name (length old) r.more) + tally ib (names name m more)) where_it_is in
            sums (tally ib two.0) (tally ib one.0) (tally ib r.kept) (tally ib (names name (length old) r.more)) (tally ib (names name (length mid) more)) (tally ib (names name (length old) (r.more ++ more))) a b c,
      );
}
  where
    sums : (z x k m n mn : ℕ) → x ≡ k + m → z ≡ x + n → mn ≡ m + n → z ≡ k + mn
    sums z x k m n mn a b c = omega arith

-- the same pages, in any order
pub becomes-pages : {E : Type 0} (find : Bref → Option (Shape E)) (Now : (Bref → Option (Shape E)) → (ℕ → Bref) → List E → List Bref → Type 0) (old new : List (PlanPage E)) (freed gone : List Bref) (es : List E) (ps qs : List Bref)
    → ((ib : ℕ) → tally ib qs ≡ tally ib ps) → Becomes find Now old new freed gone es ps → Becomes find Now old new freed gone es qs
becomes-pages find Now old new freed gone es ps qs same b = record { more = b.more; gone = b.gone; kept = b.kept; pages = b.pages; freed = b.freed; counted = λ ib. b.counted ib ∙ sym (same ib); tree = b.tree }

-- ---- contents

pub stands-none : {E : Type 0} (key : E → ℕ) (n high : ℕ) (after : Bref → Option (Shape E)) (name : ℕ → Bref) → StandsFor key n high [] [] after name [] []
stands-none key zero high after name = (refl, refl)
stands-none key (suc n) high after name = (refl, refl)

-- a content behind another, of greater keys
pub stands-join : {E : Type 0} (key : E → ℕ) (n h high : ℕ) (xs ys : List E) (cs ds : List (ℕ × Child)) (after : Bref → Option (Shape E)) (name : ℕ → Bref) (es fs : List E) (ps qs : List Bref) → h ≤ high → RiseIn h high (keys_of ds)
    → StandsFor key n h xs cs after name es ps → StandsFor key n high ys ds after name fs qs → StandsFor key n high (xs ++ ys) (cs ++ ds) after name (es ++ fs) (ps ++ qs)
stands-join key zero h high xs ys cs ds after name es fs ps qs le rises a b =
    (ap (λ (l : List _). l ++ fs) a.0 ∙ ap (λ (l : List _). xs ++ l) b.0, ap (λ (l : List Bref). l ++ qs) a.1 ∙ b.1)
stands-join key (suc n) h high xs ys cs ds after name es fs ps qs le rises a b =
    subst (λ (l : List (ℕ × Bref)). AreBelow (IsTree after key n) high l (es ++ fs) (ps ++ qs)) (sym (resolved-join name cs ds))
    (below-append (IsTree after key n) (raises after key n) h high (resolved name cs) (resolved name ds) es fs ps qs (up_to-low name h high ds rises le) a b)

pub below-join : {E : Type 0} (key : E → ℕ) (n h high : ℕ) (cs ds : List (ℕ × Child)) (after : Bref → Option (Shape E)) (name : ℕ → Bref) (es fs : List E) (ps qs : List Bref) → h ≤ high → RiseIn h high (keys_of ds)
    → AreBelow (IsTree after key n) h (resolved name cs) es ps → AreBelow (IsTree after key n) high (resolved name ds) fs qs → AreBelow (IsTree after key n) high (resolved name (cs ++ ds)) (es ++ fs) (ps ++ qs)
below-join key n h high cs ds after name es fs ps qs le rises a b =
    subst (λ (l : List (ℕ × Bref)). AreBelow (IsTree after key n) high l (es ++ fs) (ps ++ qs)) (sym (resolved-join name cs ds))
    (below-append (IsTree after key n) (raises after key n) h high (resolved name cs) (resolved name ds) es fs ps qs (up_to-low name h high ds rises le) a b)

-- new pages of a content
pub leaves-make : {E : Type 0} (key : E → ℕ) (rule : ℕ → ℕ) (leaf level : ℕ) (old new : List (PlanPage E)) (entries : List E) (children cs : List (ℕ × Child)) → level ≡ 0 → Lays key old new cs entries → AreKeys rule (keys_of cs) → length new ≡ length old + length cs
    → ((n k e : ℕ) → n * leaf ≤ 488 → length entries ≤ k * n + e → length cs ≤ k + e) → Makes key rule leaf level old new entries children cs
leaves-make {E} key rule leaf level old new entries children cs is lays keys grows few = subst (λ (m : ℕ). Makes key rule leaf m old new entries children cs) (sym is) (record {
  more = lays.more;
  pages = lays.pages;
  keys = keys;
  rises = λ low high r q. lays.rises low high r;
  grows = grows;
  few = λ most k all le. let a = few most k 0 all.holds (omega (arith, le)) in omega (arith, a);
  tree = λ after name low high es qs s r q stands.
      let t = lays.tree after name low high s r in (
        t.0,
        subst (λ (l : List E). AreBelow (IsTree after key 0) high (resolved name cs) l t.0) (sym stands.0) t.1,
        λ ib. let a = t.2 ib in let b = ap (tally ib) stands.1 in sums (tally ib t.0) (tally ib (names name (length old) lays.more)) (tally ib qs) a b,
      );
})
  where
    sums : (x n q : ℕ) → x ≡ n → q ≡ 0 → x ≡ q + n
    sums x n q a b = omega arith

pub inners-make : {E : Type 0} (key : E → ℕ) (rule : ℕ → ℕ) (leaf level n : ℕ) (old new : List (PlanPage E)) (entries : List E) (children cs : List (ℕ × Child)) → level ≡ suc n → Packs key n old new children cs → AreKeys rule (keys_of cs) → length new ≡ length old + length cs
    → ((k e : ℕ) → length children ≤ k * 20 + e → length cs ≤ k + e) → Makes key rule leaf level old new entries children cs
inners-make {E} key rule leaf level n old new entries children cs is packs keys grows few = subst (λ (m : ℕ). Makes key rule leaf m old new entries children cs) (sym is) (record {
  more = packs.more;
  pages = packs.pages;
  keys = keys;
  rises = λ low high r q. packs.rises low high q;
  grows = grows;
  few = λ most k all le.
      let high : most ≤ 20 = inner-fits leaf (suc n) most (omega arith) all.holds in
      let a : k * most ≤ k * 20 = mul-le k most k 20 (omega arith) high in
      let here = size-inner n entries children in
      let b = few k 0 (omega (arith, le, here, a)) in
      omega (arith, b);
  tree = λ after name low high es qs s r q stands. packs.tree after name low high es qs s q stands;
})

-- ---- a child that stays

-- its tree, in the old pages
abbrev pub IsKept : {E : Type 0} → (Bref → Option (Shape E)) → (E → ℕ) → ℕ → Option Seat → List E → List Bref → Type 0
IsKept find key n None es ps = (es ≡ []) × (ps ≡ [])
IsKept find key n (Some seat) es ps = IsTree find key n seat.key (seat.high + 1) seat.at es ps

-- its keys lie between two numbers
abbrev pub KeptIn : (ℕ → ℕ) → ℕ → ℕ → Option Seat → Type 0
KeptIn rule low high None = low ≤ high
KeptIn rule low high (Some seat) = (low ≤ seat.low) × (seat.low ≤ seat.key) × (seat.key ≤ seat.high) × (seat.high + 1 ≤ high) × (rule seat.key ≡ seat.key)

pub kept-le : (rule : ℕ → ℕ) (low high : ℕ) (kept : Option Seat) → KeptIn rule low high kept → low ≤ high
kept-le rule low high None k = k
kept-le rule low high (Some seat) k = let a = k.0 in let b = k.1 in let c = k.2 in let d = k.3 in omega (arith, a, b, c, d)

pub kept-rise : (rule : ℕ → ℕ) (low high : ℕ) (kept : Option Seat) → KeptIn rule low high kept → RiseIn low high (keys_of (kept_child kept))
kept-rise rule low high None k = tt
kept-rise rule low high (Some seat) k = let a = k.0 in let b = k.1 in let c = k.2 in let d = k.3 in (omega (arith, a, b), omega (arith, c, d), tt)

pub kept-keys : (rule : ℕ → ℕ) (low high : ℕ) (kept : Option Seat) → KeptIn rule low high kept → AreKeys rule (keys_of (kept_child kept))
kept-keys rule low high None k = tt
kept-keys rule low high (Some seat) k = (k.4, tt)

pub kept-replaces : {E : Type 0} (find : Bref → Option (Shape E)) (key : E → ℕ) (rule : ℕ → ℕ) (n low high : ℕ) (kept : Option Seat) (pages : List (PlanPage E)) (freed : List Bref) (es : List E) (ps : List Bref) → KeptIn rule low high kept → IsKept find key n kept es ps
    → Replaces find key n high pages pages freed freed (kept_child kept) es ps
kept-replaces find key rule n low high None pages freed es ps k t =
    subst (λ (l : List _). Replaces find key n high pages pages freed freed [] l ps) (sym t.0) (subst (λ (l : List Bref). Replaces find key n high pages pages freed freed [] [] l) (sym t.1) (replaces-start find key n high pages freed))
kept-replaces find key rule n low high (Some seat) pages freed es ps k t =
    replaces-kept find key n high seat.key pages freed seat.at es ps (raises find key n seat.key (seat.high + 1) high seat.at es ps k.3 t)

-- ---- the children so far

-- The children that are done, with the entries made, and the content that is held behind them.
abbrev pub Sofar : {E : Type 0} → (E → ℕ) → (n cut floor : ℕ) → List (ℕ × Child) → List E → List (ℕ × Child) → List E → (Bref → Option (Shape E)) → (ℕ → Bref) → List E → List Bref → Type 0
Sofar key n cut floor out entries children held after name made qs = (xs : List Bref) × (ys : List Bref) × AreBelow (IsTree after key n) cut (resolved name out) made xs × StandsFor key n floor entries children after name held ys × ((ib : ℕ) → tally ib qs ≡ tally ib xs + tally ib ys)

-- how they are there in the tree
pub record Stage {E : Type 0} (find : Bref → Option (Shape E)) (key : E → ℕ) (n cut floor : ℕ) (old new : List (PlanPage E)) (freed gone : List Bref) (out : List (ℕ × Child)) (kept : Option Seat) (entries : List E) (children : List (ℕ × Child))
    (es : List E) (ps : List Bref) : Type 0 where
  pub made : List E
  pub stayed : List E
  pub held : List E
  pub done_pages : List Bref
  pub stayed_pages : List Bref
  pub so_far : Becomes find (Sofar key n cut floor out entries children held) old new freed gone made done_pages
  pub stays : IsKept find key n kept stayed stayed_pages
  pub parts : es ≡ made ++ (stayed ++ held)
  pub pages : (ib : ℕ) → tally ib ps ≡ tally ib done_pages + tally ib stayed_pages

tally-none : (ib : ℕ) (a : ℕ) → a ≡ a + tally ib []
tally-none ib a = omega arith

-- nothing yet
pub stage-start : {E : Type 0} (find : Bref → Option (Shape E)) (key : E → ℕ) (n low : ℕ) (pages : List (PlanPage E)) (freed : List Bref) → Stage find key n low low pages pages freed freed [] None [] [] [] []
stage-start find key n low pages freed = record {
  made = [];
  stayed = [];
  held = [];
  done_pages = [];
  stayed_pages = [];
  so_far = becomes-new find (λ after name es qs. AreBelow (IsTree after key n) low (resolved name []) es qs) (Sofar key n low low [] [] [] []) pages pages pages [] freed freed [] [] [] (sym (append-nil pages))
      (λ after name xs s below. (xs, (xs, [], below, stands-none key n low after name, λ ib. tally-none ib (tally ib xs)), λ ib. tally-none ib (tally ib xs)))
      (replaces-start find key n low pages freed);
  stays = (refl, refl);
  parts = refl;
  pages = λ ib. refl;
}

-- a content that is read behind what is held
pub stage-join : {E : Type 0} (find : Bref → Option (Shape E)) (key : E → ℕ) (n cut floor high : ℕ) (old mid new : List (PlanPage E)) (freed between gone : List Bref) (out : List (ℕ × Child)) (kept : Option Seat) (entries more_entries : List E)
    (children more_children : List (ℕ × Child)) (es fs : List E) (ps qs : List Bref) → floor ≤ high → RiseIn floor high (keys_of more_children)
    → Stage find key n cut floor old mid freed between out kept entries children es ps → Becomes find (StandsFor key n high more_entries more_children) mid new between gone fs qs
    → Stage find key n cut high old new freed gone out kept (entries ++ more_entries) (children ++ more_children) (es ++ fs) (ps ++ qs)
stage-join {E} find key n cut floor high old mid new freed between gone out kept entries more_entries children more_children es fs ps qs le rises g b = record {
  made = g.made;
  stayed = g.stayed;
  held = g.held ++ fs;
  done_pages = g.done_pages ++ qs;
  stayed_pages = g.stayed_pages;
  so_far = becomes-and find (Sofar key n cut floor out entries children g.held) (StandsFor key n high more_entries more_children) (Sofar key n cut high out (entries ++ more_entries) (children ++ more_children) (g.held ++ fs)) old mid new freed between gone
      g.made fs g.made g.done_pages qs (g.done_pages ++ qs) (λ ib. tally-join ib g.done_pages qs)
      (λ after name xs ys a c. (
        xs ++ ys,
        (
          a.0,
          a.1 ++ ys,
          a.2,
          stands-join key n floor high entries more_entries children more_children after name g.held fs a.1 ys le rises a.3 c,
          λ ib. sums (tally ib (xs ++ ys)) (tally ib xs) (tally ib ys) (tally ib a.0) (tally ib a.1) (tally ib (a.1 ++ ys)) (tally-join ib xs ys) (a.4 ib) (tally-join ib a.1 ys),
        ),
        λ ib. tally-join ib xs ys,
      )) g.so_far b;
  stays = g.stays;
  parts = ap (λ (l : List E). l ++ fs) g.parts ∙ append_assoc g.made (g.stayed ++ g.held) fs ∙ ap (λ (l : List E). g.made ++ l) (append_assoc g.stayed g.held fs);
  pages = λ ib. let a = g.pages ib in let c = tally-join ib ps qs in let d = tally-join ib g.done_pages qs in pages_sum (tally ib ps) (tally ib qs) (tally ib (ps ++ qs)) (tally ib g.done_pages) (tally ib g.stayed_pages) (tally ib (g.done_pages ++ qs)) a c d;
}
  where
    sums : (xy x y a b by : ℕ) → xy ≡ x + y → x ≡ a + b → by ≡ b + y → xy ≡ a + by
    sums xy x y a b by p q r = omega arith

    pages_sum : (p q pq d s dq : ℕ) → p ≡ d + s → pq ≡ p + q → dq ≡ d + q → pq ≡ dq + s
    pages_sum p q pq d s dq a b c = omega arith

-- the child that stayed, read after all, in front of what is held
pub stage-front : {E : Type 0} (find : Bref → Option (Shape E)) (key : E → ℕ) (rule : ℕ → ℕ) (n cut low floor : ℕ) (old mid new : List (PlanPage E)) (freed between gone : List Bref) (out : List (ℕ × Child)) (seat : Seat) (entries first_entries : List E)
    (children first_children : List (ℕ × Child)) (es : List E) (ps : List Bref) → low ≤ floor → RiseIn low floor (keys_of children) → seat.high + 1 ≤ low
    → ((fs : List E) (qs : List Bref) → IsTree find key n seat.key (seat.high + 1) seat.at fs qs → Becomes find (StandsFor key n (seat.high + 1) first_entries first_children) mid new between gone fs qs)
    → Stage find key n cut floor old mid freed between out (Some seat) entries children es ps
    → Stage find key n cut floor old new freed gone out None (first_entries ++ entries) (first_children ++ children) es ps
stage-front {E} find key rule n cut low floor old mid new freed between gone out seat entries first_entries children first_children es ps le rises end read g = record {
  made = g.made;
  stayed = [];
  held = g.stayed ++ g.held;
  done_pages = g.done_pages ++ g.stayed_pages;
  stayed_pages = [];
  so_far = becomes-and find (Sofar key n cut floor out entries children g.held) (StandsFor key n (seat.high + 1) first_entries first_children) (Sofar key n cut floor out (first_entries ++ entries) (first_children ++ children) (g.stayed ++ g.held)) old mid new freed between gone
      g.made g.stayed g.made g.done_pages g.stayed_pages (g.done_pages ++ g.stayed_pages) (λ ib. tally-join ib g.done_pages g.stayed_pages)
      (λ after name xs ys a c. (
        xs ++ ys,
        (
          a.0,
          ys ++ a.1,
          a.2,
          stands-join key n (seat.high + 1) floor first_entries entries first_children children after name g.stayed g.held ys a.1 (omega (arith, end, le)) (rise-widen low floor (seat.high + 1) floor (keys_of children) rises end (omega arith)) c a.3,
          λ ib. sums (tally ib (xs ++ ys)) (tally ib xs) (tally ib ys) (tally ib a.0) (tally ib a.1) (tally ib (ys ++ a.1)) (tally-join ib xs ys) (a.4 ib) (tally-join ib ys a.1),
        ),
        λ ib. tally-join ib xs ys,
      )) g.so_far (read g.stayed g.stayed_pages g.stays);
  stays = (refl, refl);
  parts = g.parts;
  pages = λ ib. let a = g.pages ib in let d = tally-join ib g.done_pages g.stayed_pages in pages_sum (tally ib ps) (tally ib g.done_pages) (tally ib g.stayed_pages) (tally ib (g.done_pages ++ g.stayed_pages)) a d;
}
  where
    sums : (xy x y a b yb : ℕ) → xy ≡ x + y → x ≡ a + b → yb ≡ y + b → xy ≡ a + yb
    sums xy x y a b yb p q r = omega arith

    pages_sum : (p d s ds : ℕ) → p ≡ d + s → ds ≡ d + s → p ≡ ds + 0
    pages_sum p d s ds a b = omega arith

-- all that is held is put behind the children that are done, while another content stands behind it
pub stage-next : {E : Type 0} (find : Bref → Option (Shape E)) (key : E → ℕ) (rule : ℕ → ℕ) (leaf n low cut next floor high : ℕ) (old mid new last : List (PlanPage E)) (freed between gone : List Bref) (out all : List (ℕ × Child)) (kept : Option Seat)
    (entries more_entries : List E) (children more_children : List (ℕ × Child)) (es fs : List E) (ps qs : List Bref) → KeptIn rule cut next kept → next ≤ floor → RiseIn next floor (map key entries) → RiseIn next floor (keys_of children)
    → Stage find key n cut floor old mid freed between out kept entries children es ps → Becomes find (StandsFor key n high more_entries more_children) mid new between gone fs qs
    → Settles key rule leaf n new last kept entries children out all
    → Stage find key n floor high old last freed gone all None more_entries more_children (es ++ fs) (ps ++ qs)
stage-next {E} find key rule leaf n low cut next floor high old mid new last freed between gone out all kept entries more_entries children more_children es fs ps qs within le entries_rise children_rise g b settles =
    let m = settles.makes in
    let Mid : (Bref → Option (Shape E)) → (ℕ → Bref) → List E → List Bref → Type 0 = λ after name es qs. (xs : List Bref) × (ys : List Bref) × Sofar key n cut floor out entries children g.held after name g.made xs × StandsFor key n high more_entries more_children after name fs ys × ((ib : ℕ) → tally ib qs ≡ tally ib xs + tally ib ys) in
    let Wide : (Bref → Option (Shape E)) → (ℕ → Bref) → List E → List Bref → Type 0 = λ after name es qs. (xs : List Bref) × (ys : List Bref) × Mid after name g.made xs × AreBelow (IsTree after key n) next (resolved name (kept_child kept)) g.stayed ys × ((ib : ℕ) → tally ib qs ≡ tally ib xs + tally ib ys) in
    let one : Becomes find Mid old new freed gone g.made (g.done_pages ++ qs) = becomes-and find (Sofar key n cut floor out entries children g.held) (StandsFor key n high more_entries more_children) Mid old mid new freed between gone g.made fs g.made g.done_pages qs (g.done_pages ++ qs)
    (λ ib. tally-join ib g.done_pages qs) (λ after name xs ys a c. (xs ++ ys, (xs, ys, a, c, λ ib. tally-join ib xs ys), λ ib. tally-join ib xs ys)) g.so_far b in
    let two : Becomes find Wide old new freed gone g.made ((g.done_pages ++ qs) ++ g.stayed_pages) = becomes-and find Mid (λ after name es qs. AreBelow (IsTree after key n) next (resolved name (kept_child kept)) es qs) Wide old new new freed gone gone g.made g.stayed g.made (g.done_pages ++ qs) g.stayed_pages ((g.done_pages ++ qs) ++ g.stayed_pages)
    (λ ib. tally-join ib (g.done_pages ++ qs) g.stayed_pages) (λ after name xs ys a c. (xs ++ ys, (xs, ys, a, c, λ ib. tally-join ib xs ys), λ ib. tally-join ib xs ys)) one (kept-replaces find key rule n cut next kept new gone g.stayed g.stayed_pages within g.stays) in
    record {
      made = g.made ++ (g.stayed ++ g.held);
      stayed = [];
      held = fs;
      done_pages = (g.done_pages ++ qs) ++ g.stayed_pages;
      stayed_pages = [];
      so_far = becomes-new find Wide (Sofar key n floor high all more_entries more_children fs) old new last m.more freed gone g.made (g.made ++ (g.stayed ++ g.held)) ((g.done_pages ++ qs) ++ g.stayed_pages) m.pages
          (λ after name ws s w.
          let mid_part = w.2 in
          let sofar = mid_part.2 in
          let t = m.tree after name next floor g.held sofar.1 s entries_rise children_rise sofar.3 in
          let first = below-join key n cut next out (kept_child kept) after name g.made g.stayed sofar.0 w.1 (kept-le rule cut next kept within) (kept-rise rule cut next kept within) sofar.2 w.3 in
          let whole = below-join key n next floor (out ++ kept_child kept) settles.pieces after name (g.made ++ g.stayed) g.held (sofar.0 ++ w.1) t.0 le (m.rises next floor entries_rise children_rise) first t.1 in
          let vs : List Bref = (sofar.0 ++ w.1) ++ t.0 in
          let placed : AreBelow (IsTree after key n) floor (resolved name all) (g.made ++ (g.stayed ++ g.held)) vs = subst (λ (l : List (ℕ × Child)). AreBelow (IsTree after key n) floor (resolved name l) (g.made ++ (g.stayed ++ g.held)) vs) (sym settles.out)
          (subst (λ (l : List E). AreBelow (IsTree after key n) floor (resolved name ((out ++ kept_child kept) ++ settles.pieces)) l vs) (append_assoc g.made g.stayed g.held) whole) in (
            vs ++ mid_part.1,
            (vs, mid_part.1, placed, mid_part.3, λ ib. tally-join ib vs mid_part.1),
            λ ib. sums (tally ib (vs ++ mid_part.1)) (tally ib vs) (tally ib mid_part.1) (tally ib (sofar.0 ++ w.1)) (tally ib t.0) (tally ib sofar.0) (tally ib w.1) (tally ib sofar.1) (tally ib (names name (length new) m.more)) (tally ib ws) (tally ib w.0) (tally ib mid_part.0)
                (tally-join ib vs mid_part.1) (tally-join ib (sofar.0 ++ w.1) t.0) (tally-join ib sofar.0 w.1) (t.2 ib) (w.4 ib) (mid_part.4 ib) (sofar.4 ib),
          )) two;
      stays = (refl, refl);
      parts = ap (λ (l : List E). l ++ fs) g.parts;
      pages = λ ib. let a = g.pages ib in let c = tally-join ib ps qs in let d = tally-join ib (g.done_pages ++ qs) g.stayed_pages in let e = tally-join ib g.done_pages qs in
          pages_sum (tally ib ps) (tally ib qs) (tally ib (ps ++ qs)) (tally ib g.done_pages) (tally ib g.stayed_pages) (tally ib (g.done_pages ++ qs)) (tally ib ((g.done_pages ++ qs) ++ g.stayed_pages)) a c d e;
    }
  where
    sums : (z v y sw t s w h n ws w0 m0 : ℕ) → z ≡ v + y → v ≡ sw + t → sw ≡ s + w → t ≡ h + n → ws ≡ w0 + w → w0 ≡ m0 + y → m0 ≡ s + h → z ≡ ws + n
    sums z v y sw t s w h n ws w0 m0 a b c d e f g = omega arith

    pages_sum : (p q pq d s dq dqs : ℕ) → p ≡ d + s → pq ≡ p + q → dqs ≡ dq + s → dq ≡ d + q → pq ≡ dqs + 0
    pages_sum p q pq d s dq dqs a b c e = omega arith

-- all that is held is put behind the children that are done
stands-empty : {E : Type 0} (key : E → ℕ) (n high : ℕ) (after : Bref → Option (Shape E)) (name : ℕ → Bref) (es : List E) (qs : List Bref) → StandsFor key n high [] [] after name es qs → qs ≡ []
stands-empty key zero high after name es qs s = s.1
stands-empty key (suc n) high after name es qs s = s.1

becomes-still : {E : Type 0} (find : Bref → Option (Shape E)) (key : E → ℕ) (n high : ℕ) (pages : List (PlanPage E)) (freed : List Bref) → Becomes find (StandsFor key n high [] []) pages pages freed freed [] []
becomes-still find key n high pages freed = record {
  more = [];
  gone = [];
  kept = [];
  pages = sym (append-nil pages);
  freed = sym (append-nil freed);
  counted = λ ib. refl;
  tree = λ after name k s. ([], stands-none key n high after name, λ ib. refl);
}

pub stage-end : {E : Type 0} (find : Bref → Option (Shape E)) (key : E → ℕ) (rule : ℕ → ℕ) (leaf n cut next floor : ℕ) (old new last : List (PlanPage E)) (freed gone : List Bref) (out all : List (ℕ × Child)) (kept : Option Seat)
    (entries : List E) (children : List (ℕ × Child)) (es : List E) (ps : List Bref) → KeptIn rule cut next kept → next ≤ floor → RiseIn next floor (map key entries) → RiseIn next floor (keys_of children)
    → Stage find key n cut floor old new freed gone out kept entries children es ps → Settles key rule leaf n new last kept entries children out all → Replaces find key n floor old last freed gone all es ps
unfolding stage-next
stage-end {E} find key rule leaf n cut next floor old new last freed gone out all kept entries children es ps within le entries_rise children_rise g settles =
    let r = stage-next find key rule leaf n 0 cut next floor floor old new new last freed gone gone out all kept entries [] children [] es [] ps [] within le entries_rise children_rise g (becomes-still find key n floor new gone) settles in
    let made : es ≡ r.made = sym (append-nil es) ∙ r.parts ∙ append-nil r.made in
    let of_made : Replaces find key n floor old last freed gone all r.made r.done_pages = becomes-new find (Sofar key n floor floor all [] [] []) (λ after name fs qs. AreBelow (IsTree after key n) floor (resolved name all) fs qs) old last last [] freed gone r.made r.made r.done_pages (sym (append-nil last))
    (λ after name xs s a. (a.0, a.2, λ ib. let b = a.4 ib in let c = ap (tally ib) (stands-empty key n floor after name [] a.1 a.3) in sums (tally ib xs) (tally ib a.0) (tally ib a.1) b c)) r.so_far in
    becomes-pages find (λ after name fs qs. AreBelow (IsTree after key n) floor (resolved name all) fs qs) old last freed gone es r.done_pages ps (λ ib. let a = r.pages ib in let b = tally-join ib ps [] in pages_sum (tally ib ps) (tally ib (ps ++ [])) (tally ib r.done_pages) a b)
    (subst (λ (l : List E). Replaces find key n floor old last freed gone all l r.done_pages) (sym made) of_made)
  where
    sums : (x a b : ℕ) → x ≡ a + b → b ≡ 0 → a ≡ x + 0
    sums x a b p q = omega arith

    pages_sum : (p q d : ℕ) → q ≡ d + 0 → q ≡ p + 0 → p ≡ d
    pages_sum p q d a b = omega arith

-- and a child stays behind them
pub stage-kept : {E : Type 0} (find : Bref → Option (Shape E)) (key : E → ℕ) (n floor high : ℕ) (old new : List (PlanPage E)) (freed gone : List Bref) (all : List (ℕ × Child)) (seat : Seat) (es fs : List E) (ps qs : List Bref)
    → Replaces find key n floor old new freed gone all es ps → IsTree find key n seat.key (seat.high + 1) seat.at fs qs → Stage find key n floor high old new freed gone all (Some seat) [] [] (es ++ fs) (ps ++ qs)
stage-kept {E} find key n floor high old new freed gone all seat es fs ps qs r tree = record {
  made = es;
  stayed = fs;
  held = [];
  done_pages = ps;
  stayed_pages = qs;
  so_far = becomes-new find (λ after name gs rs. AreBelow (IsTree after key n) floor (resolved name all) gs rs) (Sofar key n floor high all [] [] []) old new new [] freed gone es es ps (sym (append-nil new))
      (λ after name xs s below. (xs, (xs, [], below, stands-none key n high after name, λ ib. tally-none ib (tally ib xs)), λ ib. tally-none ib (tally ib xs))) r;
  stays = tree;
  parts = ap (λ (l : List E). es ++ l) (sym (append-nil fs));
  pages = λ ib. tally-join ib ps qs;
}
