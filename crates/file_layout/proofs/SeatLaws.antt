-- Pages in their seats: the order of their faults, and their keys.
use Rattle.std.proofs.Common.{Bool, true, false, not, ◌≡◌, ℕ, suc, ◌+◌, ◌-◌, ◌<◌, ◌≤◌, ltb, eqb, ◌&&◌, List, [], ◌∷◌, length, drop, get_or, Option, Some, None, Result, Ok, Err, refl, sym, ap, subst, ◌∙◌, arith, inl, inr, ◌⊎◌, if◌then◌else◌, ◌||◌}
use Rattle.std.proofs.lemmas.Bool.{le-leb, lt-leb, ltb-false, eqb-true}
use Rattle.std.proofs.lemmas.List.{get_or-map, length-map}
use Rattle.std.proofs.Math.Seq.{drop-cons}
use Rattle.pst_base.specs.Fields.{number_at}
use Rattle.pst_base.specs.declared.stops.PageFault.{PageFault}
use Rattle.pst_base.specs.declared.stops.PageFault.TheVariants.{Count, Level, Key}
use Rattle.btree_pages.specs.Pages.{Page, pieces, size_at, keys, key_in, ascend, is_counted, page_of}
use Rattle.btree_pages.specs.Pages as pages
use Rattle.file_layout.specs.declared.tree_pages.Seat.{Seat}
use Rattle.file_layout.specs.Trees.{in_span, may_have, is_wanted, owed, sooner, page_in, page_with}

-- ---- keys

-- the keys from a place on
pub keys_here : (rule : ℕ → ℕ) (entries : List (List ℕ)) (i : ℕ) → i < length entries
    → drop i (keys rule entries) ≡ key_in rule (get_or entries i []) ∷ drop (i + 1) (keys rule entries)
keys_here rule entries i h =
    let ks = keys rule entries in
    let len : length ks ≡ length entries = length-map entries (key_in rule) in
    let e : suc i ≡ i + 1 = omega arith in
    drop-cons ks i 0 (omega (arith, len)) ∙ ap (λ (k : ℕ). k ∷ drop (suc i) ks) (get_or-map (key_in rule) entries i [] 0 h) ∙ ap (λ (k : ℕ). key_in rule (get_or entries i []) ∷ drop k ks) e

pub span-next : (rule : ℕ → ℕ) (entries : List (List ℕ)) (i low high key : ℕ) → i < length entries → key ≡ key_in rule (get_or entries i []) → low ≤ key → key ≤ high
    → in_span low high (drop i (keys rule entries)) ≡ in_span low high (drop (i + 1) (keys rule entries))
span-next rule entries i low high key h here above under =
    ap (in_span low high) (keys_here rule entries i h ∙ ap (λ (k : ℕ). k ∷ drop (i + 1) (keys rule entries)) (sym here))
    ∙ rw (le-leb low key above, le-leb key high under) refl

pub span-low : (rule : ℕ → ℕ) (entries : List (List ℕ)) (i low high key : ℕ) → i < length entries → key ≡ key_in rule (get_or entries i []) → key < low
    → in_span low high (drop i (keys rule entries)) ≡ false
span-low rule entries i low high key h here under =
    ap (in_span low high) (keys_here rule entries i h ∙ ap (λ (k : ℕ). k ∷ drop (i + 1) (keys rule entries)) (sym here))
    ∙ rw (lt-leb low key under) refl

pub span-high : (rule : ℕ → ℕ) (entries : List (List ℕ)) (i low high key : ℕ) → i < length entries → key ≡ key_in rule (get_or entries i []) → low ≤ key → high < key
    → in_span low high (drop i (keys rule entries)) ≡ false
span-high rule entries i low high key h here above over =
    ap (in_span low high) (keys_here rule entries i h ∙ ap (λ (k : ℕ). k ∷ drop (i + 1) (keys rule entries)) (sym here))
    ∙ rw (le-leb low key above, lt-leb key high over) refl

-- ---- the order of faults

-- how a page without a seat is read, and how one in a seat is, by what is found
alone : Bool → Bool → Bool → Page → Result Page PageFault
alone counted deep rising page = if not counted then Err Count else (if deep then Err Level else (if not rising then Err Key else Ok page))

seated : Bool → Bool → Bool → Bool → Bool → Bool → Page → Result Page PageFault
seated counted some deep wanted rising spanned page =
    if not (counted && some) then Err Count else (if deep || not wanted then Err Level else (if not (rising && spanned) then Err Key else Ok page))

alone-count : (counted deep rising : Bool) (page : Page) → alone counted deep rising page ≡ Err Count → counted ≡ false
unfolding alone
alone-count false deep rising page e = refl
alone-count true false false page e = absurd (cc)
alone-count true false true page e = absurd (cc)
alone-count true true rising page e = absurd (cc)

alone-ok : (counted deep rising : Bool) (page got : Page) → alone counted deep rising page ≡ Ok got → (counted ≡ true) × (deep ≡ false) × (rising ≡ true) × (page ≡ got)
unfolding alone
alone-ok false deep rising page got e = absurd (cc)
alone-ok true true rising page got e = absurd (cc)
alone-ok true false false page got e = absurd (cc)
alone-ok true false true page got e = (refl, refl, refl, cc)

-- a page that isn't counted
seated-count : (counted some deep wanted rising spanned : Bool) (page : Page) → counted ≡ false → seated counted some deep wanted rising spanned page ≡ Err Count
unfolding seated
seated-count counted some deep wanted rising spanned page e = rw e refl

-- one that a parent doesn't take, though it has its count
seated-some : (counted deep wanted rising spanned : Bool) (page : Page) → seated counted false deep wanted rising spanned page ≡ Err Count
unfolding seated
seated-some false deep wanted rising spanned page = refl
seated-some true deep wanted rising spanned page = refl

counted-here : (counted deep rising : Bool) (page : Page) → (alone counted deep rising page ≡ Err Count → ⊥) → counted ≡ true
unfolding alone
counted-here false deep rising page h = absurd (h refl)
counted-here true deep rising page h = refl

seated-wanted : (counted deep rising spanned : Bool) (page : Page) → counted ≡ true → seated counted true deep false rising spanned page ≡ Err Level
unfolding seated
seated-wanted counted false rising spanned page e = rw e refl
seated-wanted counted true rising spanned page e = rw e refl

-- one that a parent takes
seated-err : (counted deep rising spanned : Bool) (page : Page) (fault : PageFault) → alone counted deep rising page ≡ Err fault → seated counted true deep true rising spanned page ≡ Err fault
unfolding alone seated
seated-err false deep rising spanned page fault e = e
seated-err true true rising spanned page fault e = e
seated-err true false false spanned page fault e = e
seated-err true false true spanned page fault e = absurd (cc)

seated-ok : (counted deep rising spanned : Bool) (page got : Page) → alone counted deep rising page ≡ Ok got → spanned ≡ true → seated counted true deep true rising spanned page ≡ Ok got
unfolding alone seated
seated-ok counted deep rising spanned page got e s =
    let parts : (counted ≡ true) × (deep ≡ false) × (rising ≡ true) × (page ≡ got) = alone-ok counted deep rising page got e in
    rw (parts.0, parts.1, parts.2, s, parts.3) refl

seated-key : (counted deep rising spanned : Bool) (page got : Page) → alone counted deep rising page ≡ Ok got → spanned ≡ false → seated counted true deep true rising spanned page ≡ Err Key
unfolding alone seated
seated-key counted deep rising spanned page got e s =
    let parts : (counted ≡ true) × (deep ≡ false) × (rising ≡ true) × (page ≡ got) = alone-ok counted deep rising page got e in
    rw (parts.0, parts.1, parts.2, s) refl

seated-parts : (counted some deep wanted rising spanned : Bool) (page got : Page) → seated counted some deep wanted rising spanned page ≡ Ok got → (deep ≡ false) × (wanted ≡ true) × (page ≡ got)
unfolding seated
seated-parts false some deep wanted rising spanned page got e = absurd (cc)
seated-parts true false deep wanted rising spanned page got e = absurd (cc)
seated-parts true true true wanted rising spanned page got e = absurd (cc)
seated-parts true true false false rising spanned page got e = absurd (cc)
seated-parts true true false true false spanned page got e = absurd (cc)
seated-parts true true false true true false page got e = absurd (cc)
seated-parts true true false true true true page got e = (refl, refl, cc)

-- ---- a content in a seat

module _ (rule : ℕ → ℕ) (leaf : ℕ) (seat : Seat) (b : List ℕ) where
  level : ℕ
  level = number_at 1 491 b

  counted : Bool
  counted = is_counted (size_at leaf (number_at 1 491 b)) b

  held : Page
  held = record { level = number_at 1 491 b; entries = pieces (size_at leaf (number_at 1 491 b)) (number_at 1 488 b) b }

  rising : Bool
  rising = ascend (keys rule (pieces (size_at leaf (number_at 1 491 b)) (number_at 1 488 b) b))

  spanned : Bool
  spanned = in_span seat.low seat.high (keys rule (pieces (size_at leaf (number_at 1 491 b)) (number_at 1 488 b) b))

  as_alone : page_of rule leaf b ≡ alone counted (ltb 7 (number_at 1 491 b)) rising held
  unfolding page_of pages.page_with alone counted held rising
  as_alone = refl

  as_seated : page_in rule leaf seat b ≡ seated counted (may_have seat.level (number_at 1 488 b)) (ltb 7 (number_at 1 491 b)) (is_wanted seat.level (number_at 1 491 b)) rising spanned held
  unfolding page_in page_with seated counted held rising spanned
  as_seated = refl

-- what `owed` says of a seat, by cases of what it is
owed-none : (wanted : Option ℕ) (b : List ℕ) → owed wanted b ≡ None → (may_have wanted (number_at 1 488 b) ≡ true) × (is_wanted wanted (number_at 1 491 b) ≡ true)
owed-none None b e = (refl, refl)
owed-none (Some wanted) b e = none_of (eqb (number_at 1 488 b) 0) (eqb (number_at 1 491 b) wanted) e
  where
    none_of : (empty same : Bool) → (if empty then Some Count else (if not same then Some Level else None)) ≡ None → (not empty ≡ true) × (same ≡ true)
    none_of true same e = absurd (cc)
    none_of false false e = absurd (cc)
    none_of false true e = (refl, refl)

owed-some : (wanted : Option ℕ) (b : List ℕ) (fault : PageFault) → owed wanted b ≡ Some fault
    → ((may_have wanted (number_at 1 488 b) ≡ false) × (fault ≡ Count)) ⊎ ((may_have wanted (number_at 1 488 b) ≡ true) × (is_wanted wanted (number_at 1 491 b) ≡ false) × (fault ≡ Level))
owed-some None b fault e = absurd (cc)
owed-some (Some wanted) b fault e = some_of (eqb (number_at 1 488 b) 0) (eqb (number_at 1 491 b) wanted) e
  where
    some_of : (empty same : Bool) → (if empty then Some Count else (if not same then Some Level else None)) ≡ Some fault
        → ((not empty ≡ false) × (fault ≡ Count)) ⊎ ((not empty ≡ true) × (same ≡ false) × (fault ≡ Level))
    some_of true same e = inl (refl, cc)
    some_of false false e = inr (refl, refl, cc)
    some_of false true e = absurd (cc)

-- a page that is none in any tree for its count
pub page_in-count : (rule : ℕ → ℕ) (leaf : ℕ) (seat : Seat) (b : List ℕ) → page_of rule leaf b ≡ Err Count → page_in rule leaf seat b ≡ Err Count
page_in-count rule leaf seat b e =
    let none : counted rule leaf seat b ≡ false = alone-count _ _ _ _ (sym (as_alone rule leaf seat b) ∙ e) in
    as_seated rule leaf seat b ∙ seated-count _ _ _ _ _ _ _ none

-- a page that a parent doesn't take, though it has its count
pub page_in-owed : (rule : ℕ → ℕ) (leaf : ℕ) (seat : Seat) (b : List ℕ) (fault : PageFault) → (page_of rule leaf b ≡ Err Count → ⊥) → owed seat.level b ≡ Some fault
    → page_in rule leaf seat b ≡ Err fault
page_in-owed rule leaf seat b fault other e =
    let whole : counted rule leaf seat b ≡ true = counted-here _ _ _ _ (λ h. other (as_alone rule leaf seat b ∙ h)) in
    as_seated rule leaf seat b
    ∙ elim (owed-some seat.level b fault e) [
      | inl none ↦ rw (none.0, none.1) (seated-some _ _ _ _ _ _)
      | inr low ↦ rw (low.0, low.1, low.2) (seated-wanted _ _ _ _ _ whole)
    ]

-- a fault, unless there is another
sooner_or : PageFault → Option PageFault → PageFault
sooner_or fault None = fault
sooner_or fault (Some before) = before

err_same : (f g : PageFault) → ◌≡◌ {A = Result Page PageFault} (Err f) (Err g) → f ≡ g
err_same f g e = cc

other_fault : (rule : ℕ → ℕ) (leaf : ℕ) (seat : Seat) (b : List ℕ) (fault first : PageFault) → (fault ≡ Count → ⊥) → (o : Option PageFault) → owed seat.level b ≡ o → sooner_or fault o ≡ first
    → page_of rule leaf b ≡ Err fault → page_in rule leaf seat b ≡ Err first
unfolding sooner_or
other_fault rule leaf seat b fault first other None is same e =
    let taken : (may_have seat.level (number_at 1 488 b) ≡ true) × (is_wanted seat.level (number_at 1 491 b) ≡ true) = owed-none seat.level b is in
    as_seated rule leaf seat b ∙ rw (taken.0, taken.1) (seated-err _ _ _ _ _ _ (sym (as_alone rule leaf seat b) ∙ e)) ∙ ap Err same
other_fault rule leaf seat b fault first other (Some before) is same e = page_in-owed rule leaf seat b before (λ h. other (err_same fault Count (sym e ∙ h))) is ∙ ap Err same

-- a page that is at fault in any tree
pub page_in-err : (rule : ℕ → ℕ) (leaf : ℕ) (seat : Seat) (b : List ℕ) (fault : PageFault) → page_of rule leaf b ≡ Err fault
    → page_in rule leaf seat b ≡ Err (sooner fault (owed seat.level b))
unfolding sooner_or
page_in-err rule leaf seat b Count e = page_in-count rule leaf seat b e
page_in-err rule leaf seat b fault e = other_fault rule leaf seat b fault _ (λ h. cc) (owed seat.level b) refl (by_owed (owed seat.level b)) e
  where
    by_owed : (o : Option PageFault) → sooner_or fault o ≡ sooner fault o
    by_owed None = refl
    by_owed (Some before) = refl

-- the keys of the page that was read
held_span : (rule : ℕ → ℕ) (leaf : ℕ) (seat : Seat) (b : List ℕ) (page : Page) → page_of rule leaf b ≡ Ok page → spanned rule leaf seat b ≡ in_span seat.low seat.high (keys rule page.entries)
unfolding spanned held
held_span rule leaf seat b page e =
    let parts : (counted rule leaf seat b ≡ true) × (ltb 7 (number_at 1 491 b) ≡ false) × (rising rule leaf seat b ≡ true) × (held rule leaf seat b ≡ page) =
    alone-ok _ _ _ _ _ (sym (as_alone rule leaf seat b) ∙ e) in
    ap (λ (q : Page). in_span seat.low seat.high (keys rule q.entries)) parts.3

pub page_in-ok : (rule : ℕ → ℕ) (leaf : ℕ) (seat : Seat) (b : List ℕ) (page : Page) → page_of rule leaf b ≡ Ok page → owed seat.level b ≡ None
    → in_span seat.low seat.high (keys rule page.entries) ≡ true → page_in rule leaf seat b ≡ Ok page
page_in-ok rule leaf seat b page e is within =
    let taken : (may_have seat.level (number_at 1 488 b) ≡ true) × (is_wanted seat.level (number_at 1 491 b) ≡ true) = owed-none seat.level b is in
    as_seated rule leaf seat b ∙ rw (taken.0, taken.1) (seated-ok _ _ _ _ _ _ (sym (as_alone rule leaf seat b) ∙ e) (held_span rule leaf seat b page e ∙ within))

pub page_in-key : (rule : ℕ → ℕ) (leaf : ℕ) (seat : Seat) (b : List ℕ) (page : Page) → page_of rule leaf b ≡ Ok page → owed seat.level b ≡ None
    → in_span seat.low seat.high (keys rule page.entries) ≡ false → page_in rule leaf seat b ≡ Err Key
page_in-key rule leaf seat b page e is without =
    let taken : (may_have seat.level (number_at 1 488 b) ≡ true) × (is_wanted seat.level (number_at 1 491 b) ≡ true) = owed-none seat.level b is in
    as_seated rule leaf seat b ∙ rw (taken.0, taken.1) (seated-key _ _ _ _ _ _ (sym (as_alone rule leaf seat b) ∙ e) (held_span rule leaf seat b page e ∙ without))

-- what is said of a page in its seat

page_parts : (rule : ℕ → ℕ) (leaf : ℕ) (seat : Seat) (b : List ℕ) (page : Page) → page_in rule leaf seat b ≡ Ok page
    → (is_wanted seat.level page.level ≡ true) × (ltb 7 page.level ≡ false)
unfolding held
page_parts rule leaf seat b page e =
    let parts : (ltb 7 (number_at 1 491 b) ≡ false) × (is_wanted seat.level (number_at 1 491 b) ≡ true) × (held rule leaf seat b ≡ page) =
    seated-parts _ _ _ _ _ _ _ _ (sym (as_seated rule leaf seat b) ∙ e) in
    let at : Page → Type 0 = λ q. (is_wanted seat.level q.level ≡ true) × (ltb 7 q.level ≡ false) in
    subst at parts.2 (parts.1, parts.0)

-- a child has the level that its parent wants
pub page_in-level : (rule : ℕ → ℕ) (leaf : ℕ) (seat : Seat) (b : List ℕ) (page : Page) (n : ℕ) → seat.level ≡ Some n → page_in rule leaf seat b ≡ Ok page → page.level ≡ n
page_in-level rule leaf seat b page n wants e =
    let parts : (is_wanted seat.level page.level ≡ true) × (ltb 7 page.level ≡ false) = page_parts rule leaf seat b page e in
    eqb-true page.level n (ap (λ (w : Option ℕ). is_wanted w page.level) (sym wants) ∙ parts.0)

pub page_in-low : (rule : ℕ → ℕ) (leaf : ℕ) (seat : Seat) (b : List ℕ) (page : Page) → page_in rule leaf seat b ≡ Ok page → page.level ≤ 7
page_in-low rule leaf seat b page e =
    let parts : (is_wanted seat.level page.level ≡ true) × (ltb 7 page.level ≡ false) = page_parts rule leaf seat b page e in
    ltb-false 7 page.level parts.1

pub ok_or_err : {r : Result Page PageFault} (page : Page) → r ≡ Ok page → r ≡ Err Count → ⊥
ok_or_err page e h = let both : ◌≡◌ {A = Result Page PageFault} (Ok page) (Err Count) = sym e ∙ h in cc
