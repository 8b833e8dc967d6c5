-- Searches stay in the order of their ids.
use Rattle.std.proofs.Common.{◌≡◌, ℕ, true, List, Result, Ok, Err, arith}
use Rattle.std.specs.Result.{OnOk, OnErr}
use Rattle.mapi_values.specs.Keyed.{keys_ascend, put_key, drop_key}
use Rattle.mapi_values.proofs.KeyedLaws.{put-ascends, drop-ascends}
use Rattle.mail_searches.specs.Searches.{Search}

abbrev search_id : Search → ℕ
search_id s = s.nid

pub put_ascends : {A E : Type 0} (r : Result A E) (s : Search) (old new : List Search) → OnOk r (new ≡ put_key search_id s old) → OnErr r (new ≡ old)
    → keys_ascend search_id 0 old ≡ true → keys_ascend search_id 0 new ≡ true
put_ascends (Ok u) s old new ok err a = rw ok (put-ascends search_id 0 s old (omega arith) a)
put_ascends (Err e) s old new ok err a = rw err a

pub drop_ascends : (f : ℕ) (old new : List Search) → new ≡ drop_key search_id f old → keys_ascend search_id 0 old ≡ true → keys_ascend search_id 0 new ≡ true
drop_ascends f old new e a = rw e (drop-ascends search_id 0 f old a)
