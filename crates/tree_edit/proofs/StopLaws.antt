-- Why a call that reads a tree stops.
use Rattle.std.proofs.Common.{◌≡◌, ◌⊎◌, inl, inr, ⊎_elim, ℕ, zero, suc, ◌+◌, ◌≤◌, List, map, length, drop, refl, sym, ap, subst, ◌∙◌, arith, Option, Some, Result, Ok, Err}
use Rattle.std.specs.Prelude.{IfErr}
use Rattle.std.specs.Result.{IsErrAnd}
use Rattle.std.proofs.lemmas.List.{length-map}
use Rattle.pst_base.specs.Fields.{number_at}
use Rattle.pst_base.specs.declared.ids.Bref.{Bref}
use Rattle.pst_base.specs.declared.stops.MemOr.{MemOr}
use Rattle.pst_base.specs.declared.stops.MemOr.TheVariants.{Memory, Refused}
use Rattle.pst_base.specs.declared.stops.PageFault.{PageFault}
use Rattle.pst_base.specs.declared.stops.SourceStop.{SourceStop}
use Rattle.pst_base.specs.declared.stops.SourceStop.TheVariants.{Failed, Changed}
use Rattle.btree_pages.specs.Pages.{Page, keys, page_of}
use Rattle.tree_edit.specs.declared.plan.Child.{Child}
use Rattle.tree_edit.specs.declared.plan.PlanPage.{PlanPage}
use Rattle.tree_edit.specs.Shapes.{Shape, leaf, inner, RiseIn, heads, up_to, OneThen, AreBelow, HasLeaf, HasInner, IsTree, IsRootOf}
use Rattle.tree_edit.specs.Pages.{child_in, shape_of, seen, shown, shapes}
use Rattle.tree_edit.specs.Source.{Source, Rose, Later, SourceStops, Gave, StopsOn}
use Rattle.tree_edit.specs.Steps.{TellsBelow, TellsTree}
use Rattle.tree_edit.specs.declared.page.Seat.{Seat}
use Rattle.tree_edit.proofs.JoinLaws.{IsKept}
use Rattle.tree_edit.proofs.StepLaws.{Seated, floor_at, some-same, leaf-shape, inner-shape, same-keys, same-heads}
use Rattle.tree_edit.proofs.LoopLaws.{EditLoop, Underway}
use Rattle.tree_edit.proofs.RootLaws.{shape-level}

-- ---- stops

rose-then : (old mid new : ℕ) → old ≤ mid → Rose mid new → Rose old new
rose-then old mid new le rose = omega (arith, le, rose)

-- the stop of a source is one of the call
pub stops-source : {A : Type 0} (Tells : (Bref → Option (List ℕ)) → Type 0) (old new : Source A) (stop : MemOr SourceStop) → SourceStops old new stop → StopsOn Tells old new stop
stops-source Tells old new Memory h = tt
stops-source Tells old new (Refused Failed) h = h
stops-source Tells old new (Refused (Changed ib stored computed)) h = (inl h.0, λ find told t. h.1 find told)

-- a call behind another stopped
pub stops-then : {A : Type 0} (Tells More : (Bref → Option (List ℕ)) → Type 0) (old mid new : Source A) (stop : MemOr SourceStop) → Later old mid → ((find : Bref → Option (List ℕ)) → old.holds find → Tells find → More find)
    → StopsOn More mid new stop → StopsOn Tells old new stop
stops-then Tells More old mid new Memory later more h = tt
stops-then Tells More old mid new (Refused Failed) later more h = rose-then old.fails mid.fails new.fails later.fails h
stops-then {A} Tells More old mid new (Refused (Changed ib stored computed)) later more h = (
  ⊎_elim (λ (a : Rose mid.changes new.changes). let r : Rose old.changes new.changes ⊎ Gave old ib = inl (rose-then old.changes mid.changes new.changes later.changes a) in r)
      (λ (a : Gave mid ib). let r : Rose old.changes new.changes ⊎ Gave old ib = inr (record { at = a.at; body = a.body; place = a.place; given = λ find told. a.given find (later.told find told) }) in r) h.0,
  λ find told t. h.1 find (later.told find told) (more find told t),
)

-- an error that is handed on
pub stops-handed : {A B : Type 0} (Tells : (Bref → Option (List ℕ)) → Type 0) (old new : Source A) (stop : MemOr SourceStop) (result : Result B (MemOr SourceStop)) → IsErrAnd result (λ e. e ≡ stop) → StopsOn Tells old new stop
    → IfErr result (StopsOn Tells old new)
stops-handed Tells old new stop (Ok y) h s = tt
stops-handed Tells old new stop (Err e) h s = let P : MemOr SourceStop → Type 0 = StopsOn Tells old new in subst P (sym h) s

-- a page that was given isn't one of its place
pub stops-here : {A : Type 0} (Tells : (Bref → Option (List ℕ)) → Type 0) (old new : Source A) (stop : MemOr SourceStop) (at : Bref) (body : List ℕ) → stop ≡ Refused (Changed at.ib 0 0)
    → ((find : Bref → Option (List ℕ)) → old.holds find → find at ≡ Some body) → ((find : Bref → Option (List ℕ)) → old.holds find → find at ≡ Some body → Tells find → ⊥) → StopsOn Tells old new stop
stops-here {A} Tells old new stop at body is given none =
    let P : MemOr SourceStop → Type 0 = StopsOn Tells old new in
    subst P (sym is) (inr (record { at = at; body = body; place = refl; given = given }), λ find told t. none find told (given find told) t)

-- ---- what a page of a tree is

-- a tree of a level, of which the top page has at least so many entries
abbrev pub IsAny : {E : Type 0} → (Bref → Option (Shape E)) → (E → ℕ) → ℕ → ℕ → ℕ → ℕ → Bref → List E → List Bref → Type 0
IsAny find key zero least low high at es ps = HasLeaf find key least low high at es ps
IsAny find key (suc n) least low high at es ps = HasInner find (IsTree find key n) (suc n) least low high at es ps

pub any-of-tree : {E : Type 0} (find : Bref → Option (Shape E)) (key : E → ℕ) (n low high : ℕ) (at : Bref) (es : List E) (ps : List Bref) → IsTree find key n low high at es ps → IsAny find key n 1 low high at es ps
any-of-tree find key zero low high at es ps t = t
any-of-tree find key (suc n) low high at es ps t = t

pub any-of-root : {E : Type 0} (find : Bref → Option (Shape E)) (key : E → ℕ) (n low high : ℕ) (at : Bref) (es : List E) (ps : List Bref) → IsRootOf find key n low high at es ps → IsAny find key n 0 low high at es ps
any-of-root find key zero low high at es ps t = t
any-of-root find key (suc n) low high at es ps t = t

pub seen-page : {E : Type 0} (rule : ℕ → ℕ) (entry_of : List ℕ → E) (r : Result Page PageFault) (s : Shape E) → seen rule entry_of r ≡ Some s → (page : Page) × (r ≡ Ok page) × (shape_of rule entry_of page ≡ s)
seen-page rule entry_of (Ok page) s e = (page, refl, some-same _ (shape_of rule entry_of page) s refl e)
seen-page rule entry_of (Err fault) s e = absurd (cc)

-- the page that a content is at the top of a tree
pub record IsAtTop (rule : ℕ → ℕ) (size : ℕ) (body : List ℕ) (n least low high : ℕ) : Type 0 where
  pub page : Page
  pub reads : page_of rule size body ≡ Ok page
  pub rises : RiseIn low high (keys rule page.entries)
  pub level : page.level ≡ n
  pub some : least ≤ length page.entries

pub any-page : {E : Type 0} (rule : ℕ → ℕ) (size : ℕ) (entry_of : List ℕ → E) (key : E → ℕ) → ((b : List ℕ) → key (entry_of b) ≡ rule (number_at 8 0 b)) → (find : Bref → Option (List ℕ)) (at : Bref) (body : List ℕ) → find at ≡ Some body
    → (n least low high : ℕ) (es : List E) (ps : List Bref) → IsAny (shapes rule size entry_of find) key n least low high at es ps → IsAtTop rule size body n least low high
any-page {E} rule size entry_of key law find at body found zero least low high es ps t =
    let s = seen-page rule entry_of (page_of rule size body) (leaf es) (sym (ap (shown rule size entry_of) found) ∙ t.shown) in
    let level : (s.0).level ≡ 0 = sym (shape-level {E = E} rule entry_of s.0) ∙ ap (λ (x : Shape E). x.level) s.2 in
    let entries : map entry_of (s.0).entries ≡ es = ap (λ (x : Shape E). x.entries) (sym (leaf-shape rule entry_of s.0 level) ∙ s.2) in
    record {
      page = s.0;
      reads = s.1;
      rises = subst (RiseIn low high) (ap (map key) (sym entries) ∙ same-keys rule entry_of key law (s.0).entries) t.rises;
      level = level;
      some = let a = t.some in let b = ap (λ (l : List E). length l) entries in let c = length-map (s.0).entries entry_of in omega (arith, a, b, c);
    }
any-page {E} rule size entry_of key law find at body found (suc n) least low high es ps t =
    let s = seen-page rule entry_of (page_of rule size body) (inner (suc n) t.children) (sym (ap (shown rule size entry_of) found) ∙ t.shown) in
    let level : (s.0).level ≡ suc n = sym (shape-level {E = E} rule entry_of s.0) ∙ ap (λ (x : Shape E). x.level) s.2 in
    let kids : t.children ≡ map (child_in rule) (s.0).entries = ap (λ (x : Shape E). x.children) (sym s.2 ∙ inner-shape rule entry_of s.0 n level) in
    record {
      page = s.0;
      reads = s.1;
      rises = subst (RiseIn low high) (ap heads kids ∙ same-heads rule (s.0).entries) t.rises;
      level = level;
      some = let a = t.some in let b = ap (λ (l : List (ℕ × Bref)). length l) kids in let c = length-map (s.0).entries (child_in rule) in omega (arith, a, b, c);
    }

-- ---- a child's stop

module _ {A E : Type 0} (rule : ℕ → ℕ) (size : ℕ) (entry_of : List ℕ → E) (key : E → ℕ) (first now next : Source A) (page : Page) (low high most i : ℕ) (old new : List (PlanPage E)) (freed gone : List Bref) (out : List (ℕ × Child)) (kept : Option Seat) (entries : List E) (children : List (ℕ × Child))
    (edits rest : List (ℕ × Option E)) (level : ℕ) (stop : MemOr SourceStop) (loop : EditLoop rule size entry_of key first now page low high most i old new freed gone out kept entries children edits rest) (is : page.level ≡ suc level) where
  pub loop-stops : (c : ℕ × Bref) (seat_low seat_high : ℕ) → Seated low high (map (child_in rule) page.entries) i c seat_low seat_high
      → StopsOn (TellsTree rule size entry_of key level c.0 (seat_high + 1) c.1) now next stop → StopsOn (TellsBelow rule size entry_of key page (high + 1)) first next stop
  loop-stops c seat_low seat_high seated =
      stops-then (TellsBelow rule size entry_of key page (high + 1)) (TellsTree rule size entry_of key level c.0 (seat_high + 1) c.1) first now next stop loop.later (λ find told t.
      let kids : List (ℕ × Bref) = map (child_in rule) page.entries in
      let floor : ℕ = floor_at low (high + 1) kids i in
      let end : ℕ = up_to (high + 1) (drop (i + 1) kids) in
      let s = seated.stands in
      let u = subst (λ (l : List (ℕ × Bref)). Underway (shapes rule size entry_of find) key most t.0 i loop.order.cut floor (high + 1) l old new freed gone out kept entries children t.2 t.3 edits rest) s.here (loop.so_far find told t.0 t.1 t.2 t.3 t.4) in
      let o : OneThen (IsTree (shapes rule size entry_of find) key t.0) (AreBelow (IsTree (shapes rule size entry_of find) key t.0) (high + 1) (drop (i + 1) kids)) c.0 end c.1 u.behind u.left_pages = u.others in
      let same : t.0 ≡ level = let a = t.1 in omega (arith, a, is) in (
        o.first,
        o.first_pages,
        subst (λ (m : ℕ). IsTree (shapes rule size entry_of find) key m c.0 (seat_high + 1) c.1 o.first o.first_pages) same
            (subst (λ (m : ℕ). IsTree (shapes rule size entry_of find) key t.0 c.0 m c.1 o.first o.first_pages) (sym seated.high_is) o.one),
      ))

  -- that of the child which stayed
  pub kept-stops : (seat : Seat) → kept ≡ Some seat → StopsOn (TellsTree rule size entry_of key level seat.key (seat.high + 1) seat.at) now next stop → StopsOn (TellsBelow rule size entry_of key page (high + 1)) first next stop
  kept-stops seat kept_is =
      stops-then (TellsBelow rule size entry_of key page (high + 1)) (TellsTree rule size entry_of key level seat.key (seat.high + 1) seat.at) first now next stop loop.later (λ find told t.
      let g = (loop.so_far find told t.0 t.1 t.2 t.3 t.4).stage in
      let same : t.0 ≡ level = let a = t.1 in omega (arith, a, is) in (
        g.stayed,
        g.stayed_pages,
        subst (λ (m : ℕ). IsTree (shapes rule size entry_of find) key m seat.key (seat.high + 1) seat.at g.stayed g.stayed_pages) same
            (subst (λ (k : Option Seat). IsKept (shapes rule size entry_of find) key t.0 k g.stayed g.stayed_pages) kept_is g.stays),
      ))
