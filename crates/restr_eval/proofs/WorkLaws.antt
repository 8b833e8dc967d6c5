-- No more restrictions are reached than the work of a restriction says.
use Rattle.std.proofs.Common.{◌≤◌, ℕ, ◌*◌, Bool, List, [], ◌∷◌, length, inl, inr, arith, sym}
use Rattle.std.proofs.lemmas.Bool.{cases_Bool}
use Rattle.std.proofs.lemmas.List.{length-map}
use Rattle.mapi_values.specs.Messages.{Mes}
use Rattle.mapi_values.specs.Values.{Val}
use Rattle.mapi_values.specs.declared.part.Part.{Part}
use Rattle.restr_codec.specs.declared.restriction.SubTable.TheVariants.{Attachments, Recipients}
use Rattle.restr_codec.specs.Restr.{Restr, Restrs, and_of, or_of, not_of, content, property, compare, bit_mask, size_of, exist, sub_object, remark, comment, none, more}
use Rattle.restr_eval.specs.Eval.{Subject, alone, eval, rows_of, subject}
use Rattle.restr_eval.specs.Reached.{reached, reached_in_all, reached_in_some, steps_among, work, work_of_all}

among_most : (test : List Val → Bool) (steps : List Val → ℕ) (w : ℕ) → ((props : List Val) → steps props ≤ w) → (xs : List (List Val)) → steps_among test steps xs ≤ length xs * w
among_most test steps w few [] = omega arith
among_most test steps w few (props ∷ xs) = elim (cases_Bool (test props)) [
  | inl y ↦ rw y (omega (arith, few props))
  | inr f ↦ rw f (omega (arith, few props, among_most test steps w few xs))
]

mutual
  reached_most : (r : Restr) (s : Subject) → reached r s ≤ work r (length s.recipients) (length s.attachments)
  reached_most (and_of rs) s = omega (arith, all_most rs s)
  reached_most (or_of rs) s = omega (arith, some_most rs s)
  reached_most (not_of r) s = omega (arith, reached_most r s)
  reached_most (content level flags v) s = omega arith
  reached_most (property relation v) s = omega arith
  reached_most (compare relation a b) s = omega arith
  reached_most (bit_mask test t mask) s = omega arith
  reached_most (size_of relation t k) s = omega arith
  reached_most (exist t) s = omega arith
  reached_most (sub_object Recipients r) s = omega (arith, among_most (λ props. eval r (alone props)) (λ props. reached r (alone props)) (work r 0 0) (λ props. reached_most r (alone props)) s.recipients)
  reached_most (sub_object Attachments r) s = omega (arith, among_most (λ props. eval r (alone props)) (λ props. reached r (alone props)) (work r 0 0) (λ props. reached_most r (alone props)) s.attachments)
  reached_most (remark vs) s = omega arith
  reached_most (comment vs r) s = omega (arith, reached_most r s)

  all_most : (rs : Restrs) (s : Subject) → reached_in_all rs s ≤ work_of_all rs (length s.recipients) (length s.attachments)
  all_most none s = omega arith
  all_most (more r rs) s = elim (cases_Bool (eval r s)) [
    | inl y ↦ rw y (omega (arith, reached_most r s, all_most rs s))
    | inr f ↦ rw f (omega (arith, reached_most r s))
  ]

  some_most : (rs : Restrs) (s : Subject) → reached_in_some rs s ≤ work_of_all rs (length s.recipients) (length s.attachments)
  some_most none s = omega arith
  some_most (more r rs) s = elim (cases_Bool (eval r s)) [
    | inl y ↦ rw y (omega (arith, reached_most r s))
    | inr f ↦ rw f (omega (arith, reached_most r s, some_most rs s))
  ]

-- the same of a message
pub reached_work : (r : Restr) (m : Mes) → reached r (subject m) ≤ work r (length (rows_of m.recipients)) (length m.parts)
reached_work r m = rw (sym (length-map (rows_of m.recipients) (λ row. row.1)), sym (length-map m.parts (λ (p : Part). p.props))) (reached_most r (subject m))
