-- The lines up to `quit`, and lists that go on by one more element.
use Rattle.std.proofs.Common.{◌≡◌, ◌∙◌, ℕ, suc, ◌+◌, ap, sym, refl, arith, Bool, true, false, List, [], ◌∷◌, ◌++◌, length, take, append_assoc, length-append, ◌||◌}
use Rattle.std.proofs.lemmas.Bool.{true≢false}
use Rattle.std.proofs.lemmas.List.{append-nil}
use Rattle.std.specs.List.{concat, list_any}
use Rattle.line_server.specs.Lines.{Piece, is_quit, up_to_quit}

or_false : (a b : Bool) → (a || b) ≡ false → (a ≡ false) × (b ≡ false)
or_false true b is = absurd (true≢false is)
or_false false b is = (refl, is)

or_right : (a b : Bool) → b ≡ true → (a || b) ≡ true
or_right true b is = refl
or_right false b is = is

pub no_quit_on : (ps : List Piece) (p : Piece) → list_any is_quit ps ≡ false → is_quit p ≡ false → list_any is_quit (ps ++ p ∷ []) ≡ false
no_quit_on [] p none not_p = rw not_p refl
no_quit_on (q ∷ ps) p none not_p =
    let parts = or_false (is_quit q) (list_any is_quit ps) none in
    let first = parts.0 in
    rw first (no_quit_on ps p parts.1 not_p)

pub quit_on : (ps : List Piece) (p : Piece) → is_quit p ≡ true → list_any is_quit (ps ++ p ∷ []) ≡ true
quit_on [] p is = rw is refl
quit_on (q ∷ ps) p is = or_right (is_quit q) (list_any is_quit (ps ++ p ∷ [])) (quit_on ps p is)

pub up_to_quit-past : (ps rest : List Piece) → list_any is_quit ps ≡ false → up_to_quit (ps ++ rest) ≡ ps ++ up_to_quit rest
up_to_quit-past [] rest none = refl
up_to_quit-past (q ∷ ps) rest none =
    let parts = or_false (is_quit q) (list_any is_quit ps) none in
    let first = parts.0 in
    rw first (ap (λ x. q ∷ x) (up_to_quit-past ps rest parts.1))

pub concat_on : (rs : List (List ℕ)) (r : List ℕ) → concat (rs ++ r ∷ []) ≡ concat rs ++ r
concat_on [] r = append-nil r
concat_on (s ∷ rs) r = ap (λ x. s ++ x) (concat_on rs r) ∙ sym (append_assoc s (concat rs) r)

pub length_on : {X : Type 0} (xs : List X) (x : X) → length (xs ++ x ∷ []) ≡ length xs + 1
length_on xs x = simp length-append

pub take-append_past : (xs ys : List ℕ) (k : ℕ) → take (length xs + k) (xs ++ ys) ≡ xs ++ take k ys
take-append_past [] ys k = let same : 0 + k ≡ k = omega arith in ap (λ n. take n ys) same
take-append_past (x ∷ xs) ys k = let same : suc (length xs) + k ≡ suc (length xs + k) = omega arith in ap (λ n. take n (x ∷ (xs ++ ys))) same ∙ ap (λ zs. x ∷ zs) (take-append_past xs ys k)
