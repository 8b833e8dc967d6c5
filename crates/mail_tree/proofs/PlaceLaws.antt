-- Places stay in the order of their ids.
use Rattle.std.proofs.Common.{◌≡◌, ℕ, true, List, Result, Ok, Err, arith}
use Rattle.std.specs.Result.{OnOk, OnErr}
use Rattle.mapi_values.specs.Keyed.{keys_ascend, put_key, drop_key}
use Rattle.mapi_values.proofs.KeyedLaws.{put-ascends, drop-ascends}
use Rattle.mail_tree.specs.declared.places.FolderPlace.{FolderPlace}
use Rattle.mail_tree.specs.Places.{place_id}

pub put_ascends : {A E : Type 0} (r : Result A E) (p : FolderPlace) (old new : List FolderPlace) → OnOk r (new ≡ put_key place_id p old) → OnErr r (new ≡ old)
    → keys_ascend place_id 0 old ≡ true → keys_ascend place_id 0 new ≡ true
put_ascends (Ok u) p old new ok err a = rw ok (put-ascends place_id 0 p old (omega arith) a)
put_ascends (Err e) p old new ok err a = rw err a

pub drop_ascends : (f : ℕ) (old new : List FolderPlace) → new ≡ drop_key place_id f old → keys_ascend place_id 0 old ≡ true → keys_ascend place_id 0 new ≡ true
drop_ascends f old new e a = rw e (drop-ascends place_id 0 f old a)
