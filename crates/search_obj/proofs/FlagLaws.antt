-- Flags and their numbers.
use Rattle.std.proofs.Common.{◌≡◌, ℕ, ◌≤◌, ◌==◌, Bool, true, false, None, Some, ◌&&◌, refl, sym, ap, ◌∙◌, arith, inl, inr}
use Rattle.std.proofs.lemmas.Bool.{and_parts, cases_Bool, eq-eqb, eqb-true, ne_eqb}
use Rattle.search_obj.specs.declared.flags.SearchFlags.{SearchFlags}
use Rattle.search_obj.specs.Flags.{are_allowed, flags_in, flags_of, number_of_flags, one_if}

one_if_most : (b : Bool) → one_if b ≤ 1
one_if_most true = omega arith
one_if_most false = omega arith

-- a digit that is 1 where a flag stands tells whether it stands
digit : (b : Bool) (n : ℕ) → n ≡ one_if b → (n == 1) ≡ b
digit true n e = eq-eqb n 1 e
digit false n e = ne_eqb n 1 (λ h. omega arith)

same_flags : (a b c d e f g p q r s t u v : Bool) → a ≡ p → b ≡ q → c ≡ r → d ≡ s → e ≡ t → f ≡ u → g ≡ v
    → let one : SearchFlags = record { stop = a; restart = b; recursive = c; shallow = d; content_indexed = e; non_content_indexed = f; static_search = g } in
    let two : SearchFlags = record { stop = p; restart = q; recursive = r; shallow = s; content_indexed = t; non_content_indexed = u; static_search = v } in one ≡ two
same_flags a b c d e f g p q r s t u v h i j k l m n = cc

-- the flags that stand in their number are the same
pub flags_in-number : (f : SearchFlags) → flags_in (number_of_flags f) ≡ f
unfolding flags_in number_of_flags
flags_in-number f =
    let a = one_if_most f.stop in let b = one_if_most f.restart in let c = one_if_most f.recursive in let d = one_if_most f.shallow in
    let e = one_if_most f.content_indexed in let g = one_if_most f.non_content_indexed in let h = one_if_most f.static_search in
    same_flags _ _ _ _ _ _ _ f.stop f.restart f.recursive f.shallow f.content_indexed f.non_content_indexed f.static_search
    (digit f.stop _ (omega (arith, a, b, c, d, e, g, h)))
    (digit f.restart _ (omega (arith, a, b, c, d, e, g, h)))
    (digit f.recursive _ (omega (arith, a, b, c, d, e, g, h)))
    (digit f.shallow _ (omega (arith, a, b, c, d, e, g, h)))
    (digit f.content_indexed _ (omega (arith, a, b, c, d, e, g, h)))
    (digit f.non_content_indexed _ (omega (arith, a, b, c, d, e, g, h)))
    (digit f.static_search _ (omega (arith, a, b, c, d, e, g, h)))

-- flags that a search may have are those of their number
pub flags_of-number : (f : SearchFlags) → are_allowed f ≡ true → flags_of (number_of_flags f) ≡ Some f
unfolding flags_of
flags_of-number f allowed =
    rw (flags_in-number f, eq-eqb (number_of_flags f) (number_of_flags f) refl, allowed) refl

-- what was found for a number has that number, and a search may have it
pub flags_of-Some : (n : ℕ) (f : SearchFlags) → flags_of n ≡ Some f → (number_of_flags f ≡ n) × (are_allowed f ≡ true)
unfolding flags_of
flags_of-Some n f is =
    elim (cases_Bool ((number_of_flags (flags_in n) == n) && are_allowed (flags_in n))) [
      | inl t ↦
          let here : Some (flags_in n) ≡ Some f = rw t at is in
          let same : flags_in n ≡ f = cc in
          let parts = and_parts (number_of_flags (flags_in n) == n) (are_allowed (flags_in n)) t in
          (ap number_of_flags (sym same) ∙ eqb-true (number_of_flags (flags_in n)) n parts.0, ap are_allowed (sym same) ∙ parts.1)
      | inr none ↦ let gone : None ≡ Some f = rw none at is in cc
    ]
