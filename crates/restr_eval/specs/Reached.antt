-- How many restrictions are reached, and at most how many.
use Rattle.std.specs.Prelude.{ℕ, suc, ◌+◌, ◌*◌, Bool, List, [], ◌∷◌, if◌then◌else◌}
use Rattle.mapi_values.specs.Values.{Val}
use Rattle.restr_codec.specs.declared.restriction.SubTable.{SubTable}
use Rattle.restr_codec.specs.declared.restriction.SubTable.TheVariants.{Recipients, Attachments}
use Rattle.restr_codec.specs.Restr.{Restr, Restrs, and_of, or_of, not_of, content, property, compare, bit_mask, size_of, exist, sub_object, remark, comment, none, more}
use Rattle.restr_eval.specs.Eval.{Subject, alone, eval, within}

-- how many steps it takes to go through objects up to the first one of which the test holds
abbrev pub steps_among : (List Val → Bool) → (List Val → ℕ) → List (List Val) → ℕ
steps_among test steps [] = 0
steps_among test steps (props ∷ rest) = steps props + (if test props then 0 else steps_among test steps rest)

-- how many restrictions are reached until it is known whether a restriction holds: an And is over at the first that doesn't hold, an Or at the first that does
abbrev mutual
  pub reached : Restr → Subject → ℕ
  reached (and_of rs) s = suc (reached_in_all rs s)
  reached (or_of rs) s = suc (reached_in_some rs s)
  reached (not_of r) s = suc (reached r s)
  reached (content level flags v) s = 1
  reached (property relation v) s = 1
  reached (compare relation a b) s = 1
  reached (bit_mask test t mask) s = 1
  reached (size_of relation t k) s = 1
  reached (exist t) s = 1
  reached (sub_object table r) s = suc (steps_among (λ props. eval r (alone props)) (λ props. reached r (alone props)) (within table s))
  reached (remark vs) s = 1
  reached (comment vs r) s = suc (reached r s)

  -- up to the first that doesn't hold
  pub reached_in_all : Restrs → Subject → ℕ
  reached_in_all none s = 0
  reached_in_all (more r rs) s = reached r s + (if eval r s then reached_in_all rs s else 0)

  -- up to the first that holds
  pub reached_in_some : Restrs → Subject → ℕ
  reached_in_some none s = 0
  reached_in_some (more r rs) s = reached r s + (if eval r s then 0 else reached_in_some rs s)

-- the number of objects in a table, of n recipients or m attachments
abbrev pub objects_in : SubTable → ℕ → ℕ → ℕ
objects_in Recipients n m = n
objects_in Attachments n m = m

-- how many restrictions are reached at most, for a message with n recipients and m attachments
abbrev mutual
  pub work : Restr → ℕ → ℕ → ℕ
  work (and_of rs) n m = suc (work_of_all rs n m)
  work (or_of rs) n m = suc (work_of_all rs n m)
  work (not_of r) n m = suc (work r n m)
  work (content level flags v) n m = 1
  work (property relation v) n m = 1
  work (compare relation a b) n m = 1
  work (bit_mask test t mask) n m = 1
  work (size_of relation t k) n m = 1
  work (exist t) n m = 1
  work (sub_object table r) n m = suc (objects_in table n m * work r 0 0)
  work (remark vs) n m = 1
  work (comment vs r) n m = suc (work r n m)

  -- the work of some restrictions together
  pub work_of_all : Restrs → ℕ → ℕ → ℕ
  work_of_all none n m = 0
  work_of_all (more r rs) n m = work r n m + work_of_all rs n m
