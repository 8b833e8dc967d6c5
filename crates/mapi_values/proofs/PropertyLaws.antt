-- What edits leave of the rules on properties.
use Rattle.std.proofs.Common.{◌≡◌, ℕ, true, List, Result, Ok, Err, OnOk, OnErr, arith, sym, subst}
use Rattle.mapi_values.specs.Values.{Val, value_fits}
use Rattle.mapi_values.specs.Properties.{IsProps, put, remove_id}
use Rattle.mapi_values.proofs.KeyedLaws.{put-ascends, put-all, drop-ascends, drop-all}

-- a value that is put leaves properties
pub put-props : (v : Val) (vs : List Val) → value_fits v ≡ true → IsProps vs → IsProps (put v vs)
put-props v vs f p = record {
  ascend = put-ascends (λ w. w.id) 0 v vs (omega arith) p.ascend;
  fit = put-all (λ w. w.id) value_fits v vs f p.fit;
}

-- a value that is removed leaves properties
pub remove-props : (id : ℕ) (vs : List Val) → IsProps vs → IsProps (remove_id id vs)
remove-props id vs p = record {
  ascend = drop-ascends (λ w. w.id) 0 id vs p.ascend;
  fit = drop-all (λ w. w.id) value_fits id vs p.fit;
}

pub same-props : (vs ws : List Val) → ws ≡ vs → IsProps vs → IsProps ws
same-props vs ws e p = subst IsProps (sym e) p

-- a put that may have failed leaves properties
pub tried-props : {T E : Type 0} (r : Result T E) (v : Val) (vs ws : List Val) → OnOk r (ws ≡ put v vs) → OnErr r (ws ≡ vs) → value_fits v ≡ true → IsProps vs → IsProps ws
tried-props (Ok x) v vs ws ok err f p = same-props (put v vs) ws ok (put-props v vs f p)
tried-props (Err x) v vs ws ok err f p = same-props vs ws err p
