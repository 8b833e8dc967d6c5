-- The properties of one object.
use Rattle.std.specs.Prelude.{ℕ, Bool, IsTrue, List, Option}
use Rattle.std.specs.List.{list_all}
use Rattle.mapi_values.specs.Keyed.{keys_ascend, find_key, put_key, drop_key}
use Rattle.mapi_values.specs.Values.{Val, value_fits}

-- the ids ascend strictly, from low on
abbrev pub ascend_from : ℕ → List Val → Bool
ascend_from low vs = keys_ascend (λ v. v.id) low vs

-- each value has a length that its kind may have
abbrev pub all_fit : List Val → Bool
all_fit vs = list_all value_fits vs

-- the values are the properties of an object
pub record IsProps (vs : List Val) : Type 0 where
  pub ascend : IsTrue (ascend_from 0 vs)
  pub fit : IsTrue (all_fit vs)

-- the value with this id
abbrev pub find : ℕ → List Val → Option Val
find id vs = find_key (λ v. v.id) id vs

-- the values with v in place of the one with its id
abbrev pub put : Val → List Val → List Val
put v vs = put_key (λ v. v.id) v vs

-- the values without the one with this id
abbrev pub remove_id : ℕ → List Val → List Val
remove_id id vs = drop_key (λ v. v.id) id vs
