-- Edits of a list, of its parts, and step by step.
use Rattle.std.proofs.Common.{◌≡◌, ℕ, ◌+◌, ◌≤◌, ◌<◌, List, [], ◌∷◌, ◌++◌, map, refl, sym, ap, ◌∙◌, arith, append_assoc, Option, Some, None, inl, inr}
use Rattle.std.proofs.lemmas.List.{append-nil}
use Rattle.std.proofs.lemmas.Bool.{lt-ltb, le-ltb, cases_lt}
use Rattle.tree_edit.specs.Shapes.{RiseIn}
use Rattle.tree_edit.specs.Edits.{under, over, given, edited, AreEdits}
use Rattle.tree_edit.proofs.ShapeLaws.{rise-widen}

-- every key is below a number, or none is
abbrev pub AreUnder : {E : Type 0} → (E → ℕ) → ℕ → List E → Type 0
AreUnder key k [] = Unit {0}
AreUnder key k (e ∷ es) = (key e < k) × AreUnder key k es

abbrev pub AreOver : {E : Type 0} → (E → ℕ) → ℕ → List E → Type 0
AreOver key k [] = Unit {0}
AreOver key k (e ∷ es) = (k ≤ key e) × AreOver key k es

pub rise-under : {E : Type 0} (key : E → ℕ) (low high k : ℕ) (es : List E) → RiseIn low high (map key es) → high ≤ k → AreUnder key k es
rise-under key low high k [] r a = tt
rise-under key low high k (e ∷ es) r a = let y = r.1 in (omega arith, rise-under key (key e + 1) high k es r.2 a)

pub rise-over : {E : Type 0} (key : E → ℕ) (low high k : ℕ) (es : List E) → RiseIn low high (map key es) → k ≤ low → AreOver key k es
rise-over key low high k [] r a = tt
rise-over key low high k (e ∷ es) r a = let y = r.0 in (omega arith, rise-over key (key e + 1) high k es r.2 (omega arith))

under-join : {E : Type 0} (key : E → ℕ) (k : ℕ) (xs ys : List E) → under key k (xs ++ ys) ≡ under key k xs ++ under key k ys
under-join key k [] ys = refl
under-join key k (e ∷ xs) ys = elim (cases_lt (key e) k) [ inl a ↦ rw (lt-ltb _ _ a) (ap (λ (l : List _). e ∷ l) (under-join key k xs ys)) | inr a ↦ rw (le-ltb _ _ a) (under-join key k xs ys) ]

over-join : {E : Type 0} (key : E → ℕ) (k : ℕ) (xs ys : List E) → over key k (xs ++ ys) ≡ over key k xs ++ over key k ys
over-join key k [] ys = refl
over-join key k (e ∷ xs) ys = elim (cases_lt k (key e)) [ inl a ↦ rw (lt-ltb _ _ a) (ap (λ (l : List _). e ∷ l) (over-join key k xs ys)) | inr a ↦ rw (le-ltb _ _ a) (over-join key k xs ys) ]

-- all under a key, and none
pub under-all : {E : Type 0} (key : E → ℕ) (k : ℕ) (es : List E) → AreUnder key k es → under key k es ≡ es
under-all key k [] a = refl
under-all key k (e ∷ es) a = rw (lt-ltb _ _ a.0) (ap (λ (l : List _). e ∷ l) (under-all key k es a.1))

pub under-none : {E : Type 0} (key : E → ℕ) (k m : ℕ) (es : List E) → k ≤ m → AreOver key m es → under key k es ≡ []
under-none key k m [] le a = refl
under-none key k m (e ∷ es) le a = let x = a.0 in let h : k ≤ key e = omega arith in rw (le-ltb _ _ h) (under-none key k m es le a.1)

pub over-all : {E : Type 0} (key : E → ℕ) (k m : ℕ) (es : List E) → k < m → AreOver key m es → over key k es ≡ es
over-all key k m [] le a = refl
over-all key k m (e ∷ es) le a = let x = a.0 in let h : k < key e = omega arith in rw (lt-ltb _ _ h) (ap (λ (l : List _). e ∷ l) (over-all key k m es le a.1))

pub over-none : {E : Type 0} (key : E → ℕ) (k m : ℕ) (es : List E) → m ≤ k + 1 → AreUnder key m es → over key k es ≡ []
over-none key k m [] le a = refl
over-none key k m (e ∷ es) le a = let x = a.0 in let h : key e ≤ k = omega arith in rw (le-ltb _ _ h) (over-none key k m es le a.1)

over-under : {E : Type 0} (key : E → ℕ) (k m : ℕ) (es : List E) → AreUnder key m es → AreUnder key m (over key k es)
over-under key k m [] a = tt
over-under key k m (e ∷ es) a = elim (cases_lt k (key e)) [ inl h ↦ rw (lt-ltb _ _ h) (a.0, over-under key k m es a.1) | inr h ↦ rw (le-ltb _ _ h) (over-under key k m es a.1) ]

-- edits above all entries of a part leave it
pub edited-behind : {E : Type 0} (key : E → ℕ) (k high : ℕ) (xs ys : List E) (ds : List (ℕ × Option E)) → AreUnder key k xs → AreEdits key k high ds → edited key (xs ++ ys) ds ≡ xs ++ edited key ys ds
edited-behind key k high xs ys [] a d = refl
edited-behind key k high xs ys (x ∷ ds) a d =
    let le = d.0 in
    let front : under key x.0 (xs ++ ys) ≡ xs ++ under key x.0 ys =
    under-join key x.0 xs ys ∙ ap (λ (l : List _). l ++ under key x.0 ys) (under-all key x.0 xs (under-more key k x.0 xs le a)) in
    let back : over key x.0 (xs ++ ys) ≡ over key x.0 ys =
    over-join key x.0 xs ys ∙ ap (λ (l : List _). l ++ over key x.0 ys) (over-none key x.0 k xs (omega arith) a) in
    rw (front, back) (append_assoc xs (under key x.0 ys) (given x.1 ++ edited key (over key x.0 ys) ds))
  where
    under-more : {E : Type 0} (key : E → ℕ) (k m : ℕ) (es : List E) → k ≤ m → AreUnder key k es → AreUnder key m es
    under-more key k m [] le a = tt
    under-more key k m (e ∷ es) le a = let h = a.0 in (omega arith, under-more key k m es le a.1)

-- edits of two parts, each with its own
pub edited-parts : {E : Type 0} (key : E → ℕ) (low m high : ℕ) (xs ys : List E) (cs ds : List (ℕ × Option E)) → AreUnder key m xs → AreOver key m ys → AreEdits key low m cs → AreEdits key m high ds
    → edited key (xs ++ ys) (cs ++ ds) ≡ edited key xs cs ++ edited key ys ds
edited-parts key low m high xs ys [] ds a b c d = edited-behind key m high xs ys ds a d
edited-parts key low m high xs ys (x ∷ cs) ds a b c d =
    let le = c.1 in
    let front : under key x.0 (xs ++ ys) ≡ under key x.0 xs =
    under-join key x.0 xs ys ∙ ap (λ (l : List _). under key x.0 xs ++ l) (under-none key x.0 m ys (omega arith) b) ∙ append-nil (under key x.0 xs) in
    let back : over key x.0 (xs ++ ys) ≡ over key x.0 xs ++ ys =
    over-join key x.0 xs ys ∙ ap (λ (l : List _). over key x.0 xs ++ l) (over-all key x.0 m ys (omega arith) b) in
    let more = edited-parts key (x.0 + 1) m high (over key x.0 xs) ys cs ds (over-under key x.0 m xs a) b c.3 d in
    rw (front, back, more) (sym (append_assoc (under key x.0 xs) (given x.1 ++ edited key (over key x.0 xs) cs) (edited key ys ds) ∙ ap (λ (l : List _). under key x.0 xs ++ l) (append_assoc (given x.1) (edited key (over key x.0 xs) cs) (edited key ys ds))))

-- what edits leave rises as it did
rise-glue : {E : Type 0} (key : E → ℕ) (low m high : ℕ) (xs ys : List E) → RiseIn low high (map key xs) → AreUnder key m xs → RiseIn m high (map key ys) → low ≤ m → RiseIn low high (map key (xs ++ ys))
rise-glue key low m high [] ys r u s le = rise-widen m high low high (map key ys) s le (omega arith)
rise-glue key low m high (e ∷ xs) ys r u s le = let x = u.0 in (r.0, r.1, rise-glue key (key e + 1) m high xs ys r.2 u.1 s (omega arith))

under-rise : {E : Type 0} (key : E → ℕ) (low high k : ℕ) (es : List E) → RiseIn low high (map key es) → RiseIn low high (map key (under key k es))
under-rise key low high k [] r = tt
under-rise key low high k (e ∷ es) r =
    let x = r.0 in
    elim (cases_lt (key e) k) [
      | inl a ↦ rw (lt-ltb _ _ a) (r.0, r.1, under-rise key (key e + 1) high k es r.2)
      | inr a ↦ rw (le-ltb _ _ a) (rise-widen (key e + 1) high low high (map key (under key k es)) (under-rise key (key e + 1) high k es r.2) (omega arith) (omega arith))
    ]

under-under : {E : Type 0} (key : E → ℕ) (k : ℕ) (es : List E) → AreUnder key k (under key k es)
under-under key k [] = tt
under-under key k (e ∷ es) = elim (cases_lt (key e) k) [ inl a ↦ rw (lt-ltb _ _ a) (a, under-under key k es) | inr a ↦ rw (le-ltb _ _ a) (under-under key k es) ]

over-rise : {E : Type 0} (key : E → ℕ) (low high k : ℕ) (es : List E) → RiseIn low high (map key es) → RiseIn (k + 1) high (map key (over key k es))
over-rise key low high k [] r = tt
over-rise key low high k (e ∷ es) r =
    elim (cases_lt k (key e)) [
      | inl a ↦ rw (lt-ltb _ _ a, over-all key k (key e + 1) es (omega arith) (rise-over key (key e + 1) high (key e + 1) es r.2 (omega arith))) (omega arith, r.1, r.2)
      | inr a ↦ rw (le-ltb _ _ a) (over-rise key (key e + 1) high k es r.2)
    ]

pub edited-rise : {E : Type 0} (key : E → ℕ) (low high : ℕ) (es : List E) (ds : List (ℕ × Option E)) → RiseIn low high (map key es) → AreEdits key low high ds → RiseIn low high (map key (edited key es ds))
edited-rise key low high es [] r d = r
edited-rise key low high es ((k, None) ∷ ds) r d =
    let x = d.0 in
    rise-glue key low k high (under key k es) (edited key (over key k es) ds) (under-rise key low high k es r) (under-under key k es)
    (rise-widen (k + 1) high k high (map key (edited key (over key k es) ds)) (edited-rise key (k + 1) high (over key k es) ds (over-rise key low high k es r) d.3) (omega arith) (omega arith)) x
edited-rise key low high es ((k, Some e) ∷ ds) r d =
    let x = d.0 in
    let y = d.1 in
    let same : key e ≡ k = d.2 in
    rise-glue key low k high (under key k es) (e ∷ edited key (over key k es) ds) (under-rise key low high k es r) (under-under key k es)
    (omega arith, omega arith, rise-widen (k + 1) high (key e + 1) high (map key (edited key (over key k es) ds)) (edited-rise key (k + 1) high (over key k es) ds (over-rise key low high k es r) d.3) (omega arith) (omega arith)) x
