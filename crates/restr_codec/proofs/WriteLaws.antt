-- What is known of a restriction that has a spelling.
use Rattle.std.specs.Prelude.{OnOk}
use Rattle.std.proofs.Common.{Result, Ok, Err, ◌≡◌, ◌<◌, ℕ, suc, Bool, true, false, ◌&&◌, List, [], ◌∷◌, length, get_or, zero, arith}
use Rattle.std.proofs.lemmas.Bool.{and_parts, and_from, ltb-true}
use Rattle.mapi_values.specs.Values.{Val, value_fits}
use Rattle.restr_codec.specs.Kinds.{is_sound, is_value_kind}
use Rattle.restr_codec.specs.Restr.{Restr, Restrs, and_of, or_of, not_of, content, property, compare, bit_mask, size_of, exist, sub_object, remark, comment, none, more}
use Rattle.restr_codec.specs.Forms.{restrs}
use Rattle.restr_codec.specs.Spelling.{are_allowed, are_tagged_values, is_allowed, is_tag, is_tagged_value, is_written, tag_of}

-- the tests of a tagged value, one by one
pub record IsTaggedValue (v : Val) : Type 0 where
  pub tag : is_tag (tag_of v) ≡ true
  pub kind : is_value_kind v.kind ≡ true
  pub sound : is_sound v ≡ true
  pub fit : value_fits v ≡ true
  pub written : is_written v.kind v.bytes ≡ true

pub tagged_value : (v : Val) → is_tagged_value v ≡ true → IsTaggedValue v
unfolding is_tagged_value
tagged_value v h =
    let a = and_parts (is_tag (tag_of v)) (is_value_kind v.kind && (is_sound v && (value_fits v && is_written v.kind v.bytes))) h in
    let b = and_parts (is_value_kind v.kind) (is_sound v && (value_fits v && is_written v.kind v.bytes)) a.1 in
    let c = and_parts (is_sound v) (value_fits v && is_written v.kind v.bytes) b.1 in
    let d = and_parts (value_fits v) (is_written v.kind v.bytes) c.1 in
    record { tag = a.0; kind = b.0; sound = c.0; fit = d.0; written = d.1 }

few : (kind : ℕ) (bytes : List ℕ) → kind ≡ 0x0102 → is_written kind bytes ≡ true → length bytes < 65536
unfolding is_written
few kind bytes e h = ltb-true (length bytes) 65536 (rw e at h)

-- bytes that are written have a number of two bytes
pub few_bytes : (v : Val) → v.kind ≡ 0x0102 → is_tagged_value v ≡ true → length v.bytes < 65536
few_bytes v e h = few v.kind v.bytes e (tagged_value v h).written

pub and_left : (x y : Bool) → (x && y) ≡ true → x ≡ true
and_left x y h = (and_parts x y h).0

pub and_right : (x y : Bool) → (x && y) ≡ true → y ≡ true
and_right x y h = (and_parts x y h).1

-- what may stand in each of some restrictions may stand in one of them
pub allowed_at : (inner : Bool) (rs : List Restr) (i : ℕ) (d : Restr) → i < length rs → are_allowed inner (restrs rs) ≡ true → is_allowed inner (get_or rs i d) ≡ true
allowed_at inner [] i d h a = absurd (omega (arith, h))
allowed_at inner (r ∷ rs) zero d h a = (and_parts (is_allowed inner r) (are_allowed inner (restrs rs)) a).0
allowed_at inner (r ∷ rs) (suc i) d h a = allowed_at inner rs i d (omega (arith, h)) (and_parts (is_allowed inner r) (are_allowed inner (restrs rs)) a).1

mutual
  -- what may stand within a SubObject may stand outside of one
  pub allowed_outside : (r : Restr) → is_allowed true r ≡ true → is_allowed false r ≡ true
  allowed_outside (and_of rs) h = all_outside rs h
  allowed_outside (or_of rs) h = all_outside rs h
  allowed_outside (not_of r) h = allowed_outside r h
  allowed_outside (content level flags v) h = h
  allowed_outside (property relation v) h = h
  allowed_outside (compare relation a b) h = h
  allowed_outside (bit_mask test t mask) h = h
  allowed_outside (size_of relation t n) h = h
  allowed_outside (exist t) h = h
  allowed_outside (sub_object table r) h = absurd cc
  allowed_outside (remark vs) h = h
  allowed_outside (comment vs r) h =
      let parts = and_parts (are_tagged_values vs) (is_allowed true r) h in and_from (are_tagged_values vs) (is_allowed false r) parts.0 (allowed_outside r parts.1)

  all_outside : (rs : Restrs) → are_allowed true rs ≡ true → are_allowed false rs ≡ true
  all_outside none h = h
  all_outside (more r rs) h =
      let parts = and_parts (is_allowed true r) (are_allowed true rs) h in and_from (is_allowed false r) (are_allowed false rs) (allowed_outside r parts.0) (all_outside rs parts.1)

pub on_ok : {A E P Q : Type 0} (r : Result A E) → (P → Q) → OnOk r P → OnOk r Q
on_ok (Ok x) f h = f h
on_ok (Err e) f h = h
