-- A page that was written reads back.
use Rattle.std.proofs.Common.{true, false, ◌≡◌, ℕ, zero, suc, ◌+◌, ◌*◌, ◌/◌, ◌<◌, ◌≤◌, ltb, leb, eqb, List, [], ◌∷◌, ◌++◌, length, map, take, drop, get_or, Ok, refl, sym, ap, subst, ◌∙◌, arith, append_assoc, append-nil, length-append}
use Rattle.std.specs.List.{All}
use Rattle.std.proofs.lemmas.Bool.{eq-eqb, le-leb, le-ltb}
use Rattle.std.proofs.lemmas.List.{drop-drop, drop_at, take_at, length-take-le, length-map, map_more, take_more, take_all}
use Rattle.std.proofs.lemmas.Nat.{mul-le}
use Rattle.std.proofs.Math.Nat.{div-le_of_le-mul}
use Rattle.pst_base.specs.Cells.{Cell, written, is_apart, value_at, Fit}
use Rattle.pst_base.specs.Fields.{number_at, replaced}
use Rattle.pst_base.proofs.CellLaws.{number_at-written, length-written, length-replaced, get_or-replaced_above}
use Rattle.pst_base.proofs.Numbers.{number_at-same}
use Rattle.btree_pages.specs.Pages.{pieces, size_at, keys, ascend, is_counted, page_with, page_of, joined, with_head}

-- ---- writes one behind the other

pub replaced-next : (at : ℕ) (xs ys b : List ℕ) (here : ℕ) → here ≡ at + length xs → at + (length xs + length ys) ≤ length b
    → replaced here ys (replaced at xs b) ≡ replaced at (xs ++ ys) b
unfolding replaced
replaced-next at xs ys b here place within =
    let front : length (take at b) ≡ at = length-take-le at b (omega arith) in
    let rest = drop (at + length xs) b in
    let both : length (take at b ++ xs) ≡ here = length-append (take at b) xs ∙ ap (λ (k : ℕ). k + length xs) front ∙ sym place in
    let regroup : take at b ++ (xs ++ rest) ≡ (take at b ++ xs) ++ rest = sym (append_assoc (take at b) xs rest) in
    let first : take here (take at b ++ (xs ++ rest)) ≡ take at b ++ xs = ap (take here) regroup ∙ take_at (take at b ++ xs) rest here both in
    let last : drop (here + length ys) (take at b ++ (xs ++ rest)) ≡ drop (at + length (xs ++ ys)) b =
    sym (drop-drop (length ys) here (take at b ++ (xs ++ rest)))
    ∙ ap (drop (length ys)) (ap (drop here) regroup ∙ drop_at (take at b ++ xs) rest here both)
    ∙ drop-drop (length ys) (at + length xs) b
    ∙ ap (λ (k : ℕ). drop k b) (let e = length-append xs ys in let f : at + length xs + length ys ≡ at + length (xs ++ ys) = omega (arith, e) in f) in
    ap (λ (f : List ℕ). f ++ (ys ++ drop (here + length ys) (take at b ++ (xs ++ rest)))) first
    ∙ ap (λ (l : List ℕ). (take at b ++ xs) ++ (ys ++ l)) last
    ∙ append_assoc (take at b) xs (ys ++ drop (at + length (xs ++ ys)) b)
    ∙ ap (λ (l : List ℕ). take at b ++ l) (sym (append_assoc xs ys (drop (at + length (xs ++ ys)) b)))

-- the same, as two calls leave it
pub put-next : (at n m here : ℕ) (xs ys b p q : List ℕ) → p ≡ replaced at xs b → q ≡ replaced here ys p → length xs ≡ n → length ys ≡ m → here ≡ at + n → at + (n + m) ≤ length b
    → q ≡ replaced at (xs ++ ys) b
put-next at n m here xs ys b p q first next size more place within =
    next ∙ ap (replaced here ys) first ∙ replaced-next at xs ys b here (omega arith) (omega arith)

-- ---- pieces of one size

-- each list has this length
abbrev pub AllOf : ℕ → List (List ℕ) → Type 0
AllOf size [] = Unit {0}
AllOf size (x ∷ xs) = (length x ≡ size) × AllOf size xs

pub joined-append : (xs ys : List (List ℕ)) → joined (xs ++ ys) ≡ joined xs ++ joined ys
joined-append [] ys = refl
joined-append (x ∷ xs) ys = ap (λ (l : List ℕ). x ++ l) (joined-append xs ys) ∙ sym (append_assoc x (joined xs) (joined ys))

pub length-joined : (size : ℕ) (xs : List (List ℕ)) → AllOf size xs → length (joined xs) ≡ length xs * size
length-joined size [] all = let e : 0 ≡ 0 * size = omega arith in e
length-joined size (x ∷ xs) all =
    let rest = length-joined size xs all.1 in
    let len = all.0 in
    let e : size + length xs * size ≡ suc (length xs) * size = omega arith in
    let both = length-append x (joined xs) in
    omega (arith, both, rest, len, e)

pieces-joined : (size : ℕ) (xs : List (List ℕ)) (rest : List ℕ) → AllOf size xs → pieces size (length xs) (joined xs ++ rest) ≡ xs
pieces-joined size [] rest all = refl
pieces-joined size (x ∷ xs) rest all =
    let regroup : (x ++ joined xs) ++ rest ≡ x ++ (joined xs ++ rest) = append_assoc x (joined xs) rest in
    let first : take size ((x ++ joined xs) ++ rest) ≡ x = ap (take size) regroup ∙ take_at x (joined xs ++ rest) size all.0 in
    let later : drop size ((x ++ joined xs) ++ rest) ≡ joined xs ++ rest = ap (drop size) regroup ∙ drop_at x (joined xs ++ rest) size all.0 in
    ap (λ (f : List ℕ). f ∷ pieces size (length xs) (drop size ((x ++ joined xs) ++ rest))) first
    ∙ ap (λ (l : List ℕ). x ∷ pieces size (length xs) l) later
    ∙ ap (λ (l : List (List ℕ)). x ∷ l) (pieces-joined size xs rest all.1)

pieces-replaced : (size : ℕ) (xs : List (List ℕ)) (b : List ℕ) → AllOf size xs → pieces size (length xs) (replaced 0 (joined xs) b) ≡ xs
unfolding replaced
pieces-replaced size xs b all = pieces-joined size xs (drop (0 + length (joined xs)) b) all

-- ---- what a page says of itself

head_cells : ℕ → ℕ → ℕ → List Cell
head_cells count size level =
    record { at = 491; size = 1; value = level } ∷ record { at = 490; size = 1; value = size }
    ∷ record { at = 489; size = 1; value = 488 / size } ∷ record { at = 488; size = 1; value = count } ∷ []

-- the sizes that fields of 1 byte hold
pub record IsHead (count size level : ℕ) : Type 0 where
  pub count_fits : count < 256
  pub low : 24 ≤ size
  pub high : size ≤ 32
  pub level_fits : level ≤ 7

with_head-written : (count size level : ℕ) (b : List ℕ) → with_head count size level b ≡ written (head_cells count size level) b
unfolding with_head written head_cells
with_head-written count size level b = refl

most-fits : (size : ℕ) → 24 ≤ size → 488 / size < 256
most-fits size low = let h : 488 / size ≤ 21 = div-le_of_le-mul size {m = 488} {n = 21} (omega arith) in omega (arith, h)

head_fit : (count size level : ℕ) (b : List ℕ) → length b ≡ 496 → IsHead count size level → Fit (length b) (head_cells count size level)
unfolding head_cells
head_fit count size level b len head =
    let high = head.high in
    let deep = head.level_fits in
    let few = head.count_fits in
    (omega arith, omega arith, (omega arith, omega arith, (omega arith, most-fits size head.low, (omega arith, omega arith, tt))))

pub length-with_head : (count size level : ℕ) (b : List ℕ) → length b ≡ 496 → IsHead count size level → length (with_head count size level b) ≡ 496
length-with_head count size level b len head =
    ap length (with_head-written count size level b) ∙ length-written (head_cells count size level) b (head_fit count size level b len head) ∙ len

-- the numbers of a page whose entries were written over zeros
number_kept : (at : ℕ) (bs b : List ℕ) → length bs ≤ at → length bs ≤ length b → number_at 1 at (replaced 0 bs b) ≡ number_at 1 at b
number_kept at bs b before within =
    number_at-same 1 at at (replaced 0 bs b) b (λ k h. get_or-replaced_above 0 bs b (at + k) (omega arith) (omega arith))

record Heads (count size level : ℕ) (page : List ℕ) : Type 0 where
  pub count_is : number_at 1 488 page ≡ count
  pub size_is : number_at 1 490 page ≡ size
  pub level_is : number_at 1 491 page ≡ level

heads : (count size level : ℕ) (bs b : List ℕ) → length b ≡ 496 → IsHead count size level → length bs ≤ 488
    → Heads count size level (replaced 0 bs (with_head count size level b))
unfolding head_cells is_apart value_at
heads count size level bs b len head few =
    let whole = length-with_head count size level b len head in
    let fit = head_fit count size level b len head in
    let read : (at : ℕ) → 488 ≤ at → number_at 1 at (replaced 0 bs (with_head count size level b)) ≡ number_at 1 at (written (head_cells count size level) b) =
    λ at h. number_kept at bs (with_head count size level b) (omega arith) (omega (arith, whole)) ∙ ap (number_at 1 at) (with_head-written count size level b) in
    record {
      count_is = read 488 (omega arith) ∙ number_at-written 1 488 (head_cells count size level) b fit refl;
      size_is = read 490 (omega arith) ∙ number_at-written 1 490 (head_cells count size level) b fit refl;
      level_is = read 491 (omega arith) ∙ number_at-written 1 491 (head_cells count size level) b fit refl;
    }

-- ---- entries, each written by its bytes

-- a fact of each element
abbrev pub Each : {X : Type 0} → (X → Type 0) → List X → Type 0
Each P [] = Unit {0}
Each P (x ∷ xs) = P x × Each P xs

each-append : {X : Type 0} (P : X → Type 0) (xs ys : List X) → Each P xs → Each P ys → Each P (xs ++ ys)
each-append P [] ys first later = later
each-append P (x ∷ xs) ys first later = (first.0, each-append P xs ys first.1 later)

pub each-more : {X : Type 0} (P : X → Type 0) (xs : List X) (i : ℕ) (d : X) → i < length xs → Each P (take i xs) → P (get_or xs i d) → Each P (take (i + 1) xs)
each-more {X} P xs i d h first one =
    let at : List X → Type 0 = λ ys. Each P ys in
    subst at (sym (take_more xs i d h)) (each-append P (take i xs) (get_or xs i d ∷ []) first (one, tt))

pub all_of-map : {X : Type 0} (bytes : X → List ℕ) (size : ℕ) → ((e : X) → length (bytes e) ≡ size) → (xs : List X) → AllOf size (map bytes xs)
all_of-map bytes size sized [] = tt
all_of-map bytes size sized (x ∷ xs) = (sized x, all_of-map bytes size sized xs)

pub keys-map : {X : Type 0} (rule : ℕ → ℕ) (bytes : X → List ℕ) (key : X → ℕ) (fits : X → Type 0)
    → ((e : X) → fits e → rule (number_at 8 0 (bytes e)) ≡ key e) → (xs : List X) → Each fits xs → keys rule (map bytes xs) ≡ map key xs
keys-map rule bytes key fits keyed [] all = refl
keys-map rule bytes key fits keyed (x ∷ xs) all =
    ap (λ (k : ℕ). k ∷ keys rule (map bytes xs)) (keyed x all.0) ∙ ap (λ (ks : List ℕ). key x ∷ ks) (keys-map rule bytes key fits keyed xs all.1)

-- the page when the first i entries were written over what it was at first
pub record Underway {X : Type 0} (bytes : X → List ℕ) (fits : X → Type 0) (xs : List X) (i : ℕ) (first page : List ℕ) : Type 0 where
  pub written_so_far : page ≡ replaced 0 (joined (map bytes (take i xs))) first
  pub fit : Each fits (take i xs)
  pub size : length page ≡ 496

pub underway-start : {X : Type 0} (bytes : X → List ℕ) (fits : X → Type 0) (xs : List X) (first : List ℕ) → length first ≡ 496 → Underway bytes fits xs 0 first first
unfolding replaced
underway-start bytes fits xs first len = record { written_so_far = refl; fit = tt; size = len }

pub underway-next : {X : Type 0} (bytes : X → List ℕ) (fits : X → Type 0) (size : ℕ) (xs : List X) (i : ℕ) (x : X) (first page next : List ℕ)
    → ((e : X) → length (bytes e) ≡ size) → Underway bytes fits xs i first page → i < length xs → x ≡ get_or xs i x
    → next ≡ replaced (i * size) (bytes x) page → fits x → length first ≡ 496 → i * size + size ≤ 496
    → Underway bytes fits xs (i + 1) first next
underway-next {X} bytes fits size xs i x first page next sized under h here put fit whole within =
    let so_far = joined (map bytes (take i xs)) in
    let count : length (map bytes (take i xs)) ≡ i = length-map (take i xs) bytes ∙ length-take-le i xs (omega arith) in
    let long : length so_far ≡ i * size = length-joined size (map bytes (take i xs)) (all_of-map bytes size sized (take i xs)) ∙ ap (λ (k : ℕ). k * size) count in
    let one : length (bytes x) ≡ size = sized x in
    let all : next ≡ replaced 0 (so_far ++ bytes x) first =
    put-next 0 (i * size) size (i * size) so_far (bytes x) first page next under.written_so_far put long one (omega arith) (omega (arith, whole, within)) in
    let more : joined (map bytes (take (i + 1) xs)) ≡ so_far ++ bytes x =
    ap joined (map_more bytes xs i x h) ∙ joined-append (map bytes (take i xs)) (bytes (get_or xs i x) ∷ [])
    ∙ ap (λ (l : List ℕ). so_far ++ l) (append-nil (bytes (get_or xs i x)) ∙ ap bytes (sym here)) in
    let same : length page ≡ 496 = under.size in
    record {
      written_so_far = all ∙ ap (λ (l : List ℕ). replaced 0 l first) (sym more);
      fit = each-more fits xs i x h under.fit (let at : X → Type 0 = λ y. fits y in subst at here fit);
      size = ap length put ∙ length-replaced (i * size) (bytes x) page (omega (arith, same, one, within)) ∙ same;
    }

-- ---- the whole

page_accepts : (rule : ℕ → ℕ) (size level : ℕ) (xs : List (List ℕ)) (page : List ℕ) → Heads (length xs) size level page
    → length xs * size ≤ 488 → level ≤ 7 → pieces size (length xs) page ≡ xs → ascend (keys rule xs) ≡ true
    → page_with rule size level page ≡ Ok (record { level = level; entries = xs })
unfolding page_with is_counted
page_accepts rule size level xs page head few deep cut rising =
    let count : number_at 1 488 page ≡ length xs = head.count_is in
    let same : eqb (number_at 1 490 page) size ≡ true = eq-eqb (number_at 1 490 page) size head.size_is in
    let room : leb (length xs * size) 488 ≡ true = le-leb (length xs * size) 488 few in
    let shallow : ltb 7 level ≡ false = le-ltb 7 level deep in
    rw (count, same, room, shallow, cut, rising) refl

pub page_of-written : (rule : ℕ → ℕ) (leaf size level : ℕ) (xs : List (List ℕ)) (b page : List ℕ)
    → page ≡ replaced 0 (joined xs) (with_head (length xs) size level b) → length b ≡ 496 → IsHead (length xs) size level
    → AllOf size xs → length xs * size ≤ 488 → ascend (keys rule xs) ≡ true → size_at leaf level ≡ size
    → page_of rule leaf page ≡ Ok (record { level = level; entries = xs })
unfolding page_of
page_of-written rule leaf size level xs b page made len head all few rising sized =
    let inside : length (joined xs) ≤ 488 = let e = length-joined size xs all in omega (arith, e, few) in
    let of_page : Heads (length xs) size level page =
    let at : List ℕ → Type 0 = λ p. Heads (length xs) size level p in subst at (sym made) (heads (length xs) size level (joined xs) b len head inside) in
    let cut : pieces size (length xs) page ≡ xs = ap (pieces size (length xs)) made ∙ pieces-replaced size xs (with_head (length xs) size level b) all in
    ap (λ (l : ℕ). page_with rule (size_at leaf l) l page) of_page.level_is
    ∙ ap (λ (s : ℕ). page_with rule s level page) sized
    ∙ page_accepts rule size level xs page of_page few head.level_fits cut rising

-- all entries were written: the page has just their bytes
pub underway-bytes : {X : Type 0} (bytes : X → List ℕ) (fits : X → Type 0) (size level : ℕ) (xs : List X) (i : ℕ) (b first page : List ℕ)
    → Underway bytes fits xs i first page → i ≡ length xs → first ≡ with_head (length xs) size level b
    → page ≡ replaced 0 (joined (map bytes xs)) (with_head (length (map bytes xs)) size level b)
underway-bytes {X} bytes fits size level xs i b first page under last head =
    let all : take i xs ≡ xs = take_all i xs (omega arith) in
    let count : length (map bytes xs) ≡ length xs = length-map xs bytes in
    under.written_so_far ∙ ap (λ (ys : List X). replaced 0 (joined (map bytes ys)) first) all
    ∙ ap (replaced 0 (joined (map bytes xs))) (head ∙ ap (λ (n : ℕ). with_head n size level b) (sym count))

each-all : {X : Type 0} (P : X → Type 0) (xs : List X) → Each P xs → (k : ℕ) (d : X) → k < length xs → P (get_or xs k d)
each-all P [] all k d h = absurd (omega (arith, h))
each-all P (x ∷ xs) all zero d h = all.0
each-all P (x ∷ xs) all (suc k) d h = each-all P xs all.1 k d (omega (arith, h))

-- all entries were written: each fits
pub underway-fits : {X : Type 0} (bytes : X → List ℕ) (fits : X → Type 0) (xs : List X) (i : ℕ) (first page : List ℕ) → Underway bytes fits xs i first page → i ≡ length xs → All fits xs
underway-fits {X} bytes fits xs i first page under last =
    let at : List X → Type 0 = λ ys. Each fits ys in
    each-all fits xs (subst at (take_all i xs (omega arith)) under.fit)

-- all entries were written: the page reads as them
pub underway-end : {X : Type 0} (rule : ℕ → ℕ) (bytes : X → List ℕ) (key : X → ℕ) (fits : X → Type 0) (leaf size level : ℕ) (xs : List X) (i : ℕ) (b first page : List ℕ)
    → ((e : X) → length (bytes e) ≡ size) → ((e : X) → fits e → rule (number_at 8 0 (bytes e)) ≡ key e)
    → Underway bytes fits xs i first page → i ≡ length xs → first ≡ with_head (length xs) size level b → length b ≡ 496
    → 24 ≤ size → size ≤ 32 → level ≤ 7 → length xs * size ≤ 488 → ascend (map key xs) ≡ true → size_at leaf level ≡ size
    → page_of rule leaf page ≡ Ok (record { level = level; entries = map bytes xs })
underway-end {X} rule bytes key fits leaf size level xs i b first page sized keyed under last head len low high deep few rising place =
    let all : take i xs ≡ xs = take_all i xs (omega arith) in
    let count : length (map bytes xs) ≡ length xs = length-map xs bytes in
    let within : length (map bytes xs) * size ≤ 488 = rw count few in
    let most : length xs * 24 ≤ length xs * size = mul-le (length xs) 24 (length xs) size (omega arith) low in
    let fit : Each fits xs = let at : List X → Type 0 = λ ys. Each fits ys in subst at all under.fit in
    page_of-written rule leaf size level (map bytes xs) b page (underway-bytes bytes fits size level xs i b first page under last head) len
    (record { count_fits = omega (arith, most, few, count); low = low; high = high; level_fits = deep })
    (all_of-map bytes size sized xs) within (ap ascend (keys-map rule bytes key fits keyed xs fit) ∙ rising) place
