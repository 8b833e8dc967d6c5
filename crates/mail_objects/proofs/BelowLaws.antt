-- The subnodes of a message, laid out in the order of their ids.
use Rattle.std.proofs.Common.{◌≡◌, ◌∙◌, ℕ, suc, ◌+◌, ◌≤◌, ◌==◌, ◌&&◌, Bool, true, false, not, List, [], ◌∷◌, ◌++◌, length, map, Option, None, Some, refl, sym, ap, subst, inl, inr, if◌then◌else◌, length-append, arith, ◌||◌}
use Rattle.std.specs.Prelude.{nat_le}
use Rattle.std.specs.List.{list_all, list_any}
use Rattle.std.specs.Option.{option_map}
use Rattle.std.proofs.lemmas.Bool.{and_from, and_parts, cases_Bool, eq-eqb, eqb-true, le-leb, leb-true, ne_eqb}
use Rattle.pst_base.specs.Flat.{Flat}
use Rattle.pst_base.specs.Subs.{flattened, one_deeper}
use Rattle.pst_base.specs.declared.subs.Sub.{Sub}
use Rattle.node_port.specs.Stops.{subs_size}
use Rattle.property_context.proofs.SpaceLaws.{kept-size}
use Rattle.mail_objects.proofs.SizeLaws.{flattened-size, parts-sizes, sizes-append, sub_sizes, table-sizes}
use Rattle.mapi_values.specs.declared.part.Part.{Part}
use Rattle.mapi_values.specs.Keyed.{find_key, keys_ascend}
use Rattle.mapi_values.specs.Messages.{IsMessage, Mes, are_others, is_other, is_own, part_id, row_ids}
use Rattle.mapi_values.specs.Tables.{Tab}
use Rattle.mapi_values.specs.Values.{Val}
use Rattle.mapi_values.proofs.KeyedLaws.{ascend-lower}
use Rattle.node_values.proofs.SubLaws.{ascend-first, flattened-append, without-first}
use Rattle.node_values.specs.Subnodes.{contents, ids_ascend, sub_id, subnode, without}
use Rattle.mail_objects.specs.Answers.{ShowsBelow}
use Rattle.mail_objects.specs.Writing.{AddsParts, AddsTable, AreParts, AreTable, LaysBelow, rows_ascend}
use Rattle.mail_objects.specs.Message.{ShowsParts, ShowsTable, is_formed, part_is_formed, table_ascends}
use Rattle.property_context.proofs.write_limits_laws.DirectLaws.{direct-flattened}
use Rattle.property_context.specs.write_limits.Limits.{direct, few_subnodes, long_values, message_fits, one_if_some, option_fits, own_subnodes, part_fits, props_fit}
use Rattle.mail_objects.specs.Subnodes.{is_table}
use Rattle.mail_objects.proofs.FindLaws.{subnode-found, subnode-kept}
use Rattle.mail_objects.proofs.OrderLaws.{same-found}

-- ---- tests of two parts

or-none : (a b : Bool) → (a || b) ≡ false → (a ≡ false) × (b ≡ false)
or-none true b e = cc
or-none false b e = (refl, e)

or-right : (a b : Bool) → b ≡ true → (a || b) ≡ true
or-right true b e = refl
or-right false b e = e

not-false : (a : Bool) → not a ≡ true → a ≡ false
not-false true e = cc
not-false false e = refl

-- ---- finding in lists that are joined

find-right : (nid : ℕ) (xs ys : List Sub) → find_key sub_id nid xs ≡ None → find_key sub_id nid (xs ++ ys) ≡ find_key sub_id nid ys
find-right nid [] ys none = refl
find-right nid (x ∷ xs) ys none = elim (cases_Bool (sub_id x == nid)) [
  | inl t ↦ absurd (let e : Some x ≡ None = rw t at none in cc)
  | inr f ↦ rw f (find-right nid xs ys (rw f at none))
]

find-left : (nid : ℕ) (xs ys : List Sub) → find_key sub_id nid ys ≡ None → find_key sub_id nid (xs ++ ys) ≡ find_key sub_id nid xs
find-left nid [] ys none = none
find-left nid (x ∷ xs) ys none = elim (cases_Bool (sub_id x == nid)) [ inl t ↦ rw t refl | inr f ↦ rw f (find-left nid xs ys none) ]

-- ---- those that stay

-- the subnodes whose ids don't pass a test
abbrev pub staying : (ℕ → Bool) → List Sub → List Sub
staying test [] = []
staying test (s ∷ subs) = if test s.nid.bits then staying test subs else s ∷ staying test subs

without-staying : (test : ℕ → Bool) (subs : List Sub) → without test false (flattened subs) ≡ flattened (staying test subs)
without-staying test [] = refl
without-staying test (s ∷ subs) = without-first test s subs ∙ elim (cases_Bool (test s.nid.bits)) [
  | inl t ↦ rw t (without-staying test subs)
  | inr f ↦ rw f (ap (λ (fs : List Flat). flattened (s ∷ []) ++ fs) (without-staying test subs) ∙ sym (flattened-append (s ∷ []) (staying test subs)))
]

staying-found : (test : ℕ → Bool) (nid : ℕ) (subs : List Sub) → find_key sub_id nid (staying test subs) ≡ (if test nid then None else find_key sub_id nid subs)
staying-found test nid [] = elim (cases_Bool (test nid)) [ inl t ↦ rw t refl | inr f ↦ rw f refl ]
staying-found test nid (s ∷ subs) = elim (cases_Bool (test s.nid.bits)) [
  | inl t ↦ rw t (staying-found test nid subs ∙ elim (cases_Bool (test nid)) [
    | inl y ↦ rw y refl
    | inr n ↦ let apart : (s.nid.bits == nid) ≡ false = ne_eqb s.nid.bits nid (λ e. cc) in rw (n, apart) refl
  ])
  | inr f ↦ rw f (elim (cases_Bool (s.nid.bits == nid)) [
    | inl e ↦ let stays : test nid ≡ false = ap test (sym (eqb-true s.nid.bits nid e)) ∙ f in rw (e, stays) refl
    | inr n ↦ rw n (staying-found test nid subs)
  ])
]

staying-ascends : (test : ℕ → Bool) (low : ℕ) (subs : List Sub) → keys_ascend sub_id low subs ≡ true → keys_ascend sub_id low (staying test subs) ≡ true
staying-ascends test low [] ascend = refl
staying-ascends test low (s ∷ subs) ascend =
    let p = and_parts (nat_le low (sub_id s)) (keys_ascend sub_id (suc (sub_id s)) subs) ascend in
    let le : low ≤ sub_id s = leb-true low (sub_id s) p.0 in
    elim (cases_Bool (test s.nid.bits)) [
      | inl t ↦ rw t (ascend-lower sub_id low (suc (sub_id s)) (staying test subs) (omega arith) (staying-ascends test (suc (sub_id s)) subs p.1))
      | inr f ↦ rw f (and_from (nat_le low (sub_id s)) (keys_ascend sub_id (suc (sub_id s)) (staying test subs)) p.0 (staying-ascends test (suc (sub_id s)) subs p.1))
    ]

-- ---- the ids of subnodes ascend in the flat list as they do in the other

pub ids-are-keys : (low : ℕ) (subs : List Sub) → ids_ascend low (flattened subs) ≡ keys_ascend sub_id low subs
ids-are-keys low [] = refl
ids-are-keys low (s ∷ subs) = ascend-first low s subs ∙ ap (λ (b : Bool). nat_le low s.nid.bits && b) (ids-are-keys (suc s.nid.bits) subs)

-- ---- what is kept isn't of the message's own

others-right : (parts : List Part) (fs gs : List Flat) → are_others parts (fs ++ gs) ≡ true → are_others parts gs ≡ true
others-right parts [] gs all = all
others-right parts (f ∷ fs) gs all = others-right parts fs gs (and_parts (is_other parts f) (are_others parts (fs ++ gs)) all).1

first-is-other : (parts : List Part) (nid : ℕ) (blocks : List (List ℕ)) → is_other parts (record { level = 0; nid = nid; blocks = blocks }) ≡ true → is_own parts nid ≡ false
unfolding is_other
first-is-other parts nid blocks other = not-false (is_own parts nid) other

pub kept-none : (parts : List Part) (nid : ℕ) (kept : List Sub) → are_others parts (flattened kept) ≡ true → is_own parts nid ≡ true → find_key sub_id nid kept ≡ None
kept-none parts nid [] all own = refl
kept-none parts nid (s ∷ kept) all own =
    let p = and_parts (is_other parts (record { level = 0; nid = s.nid.bits; blocks = s.blocks })) (are_others parts (map one_deeper s.subs ++ flattened kept)) all in
    let other : is_own parts s.nid.bits ≡ false = first-is-other parts s.nid.bits s.blocks p.0 in
    rw (ne_eqb s.nid.bits nid (λ e. let clash : true ≡ false = sym own ∙ ap (is_own parts) (sym e) ∙ other in cc))
    (kept-none parts nid kept (others-right parts (map one_deeper s.subs) (flattened kept) p.1) own)

-- ---- tables

table-none : (id nid : ℕ) (t : Option Tab) (subs : List Sub) → AreTable id t subs → (nid ≡ id → ⊥) → find_key sub_id nid subs ≡ None
table-none id nid None [] are apart = refl
table-none id nid None (s ∷ subs) are apart = absurd are
table-none id nid (Some t) [] are apart = absurd are
table-none id nid (Some t) (s ∷ subs) are apart =
    rw (ne_eqb (sub_id s) nid (λ e. apart (sym e ∙ are.0.id_is)), are.1) refl

table-shown : (id : ℕ) (t : Option Tab) (subs : List Sub) → AreTable id t subs → ShowsTable (option_map contents (find_key sub_id id subs)) t
table-shown id None [] are = tt
table-shown id None (s ∷ subs) are = absurd are
table-shown id (Some t) [] are = absurd are
table-shown id (Some t) (s ∷ subs) are = rw (eq-eqb (sub_id s) id are.0.id_is) are.0.table

-- ---- attachments

-- an attachment has this id
abbrev pub has_part : List Part → ℕ → Bool
has_part parts nid = list_any (λ (part : Part). part.nid.bits == nid) parts

part-none : (nid : ℕ) (parts : List Part) (subs : List Sub) → AreParts parts subs → has_part parts nid ≡ false → find_key sub_id nid subs ≡ None
part-none nid [] [] are none = refl
part-none nid [] (s ∷ subs) are none = absurd are
part-none nid (p ∷ parts) [] are none = absurd are
part-none nid (p ∷ parts) (s ∷ subs) are none =
    let n = or-none (p.nid.bits == nid) (has_part parts nid) none in
    rw (ap (λ (k : ℕ). k == nid) are.0.id ∙ n.0) (part-none nid parts subs are.1 n.1)

part-above : (low nid : ℕ) (parts : List Part) → keys_ascend part_id low parts ≡ true → has_part parts nid ≡ true → low ≤ nid
part-above low nid [] ascend has = absurd (let e : false ≡ true = has in cc)
part-above low nid (p ∷ parts) ascend has =
    let a = and_parts (nat_le low (part_id p)) (keys_ascend part_id (suc (part_id p)) parts) ascend in
    let le : low ≤ part_id p = leb-true low (part_id p) a.0 in
    elim (cases_Bool (p.nid.bits == nid)) [
      | inl t ↦ let e : p.nid.bits ≡ nid = eqb-true p.nid.bits nid t in omega (arith, le, e)
      | inr f ↦ let more : suc (part_id p) ≤ nid = part-above (suc (part_id p)) nid parts a.1 (rw f at has) in omega (arith, le, more)
    ]

parts-shown : (subs : List Flat) (low : ℕ) (parts : List Part) (laid : List Sub) → keys_ascend part_id low parts ≡ true → AreParts parts laid
    → ((nid : ℕ) → has_part parts nid ≡ true → subnode subs nid ≡ option_map contents (find_key sub_id nid laid)) → ShowsParts subs (map part_id parts) parts
parts-shown subs low [] [] ascend are found = tt
parts-shown subs low [] (s ∷ laid) ascend are found = absurd are
parts-shown subs low (p ∷ parts) [] ascend are found = absurd are
parts-shown subs low (p ∷ parts) (s ∷ laid) ascend are found =
    let a = and_parts (nat_le low (part_id p)) (keys_ascend part_id (suc (part_id p)) parts) ascend in
    let here : has_part (p ∷ parts) (part_id p) ≡ true = rw (eq-eqb (part_id p) (part_id p) refl) refl in
    let first : subnode subs (part_id p) ≡ Some (s.blocks, s.subs) = found (part_id p) here ∙ rw (eq-eqb (sub_id s) (part_id p) are.0.id) refl in (
      rw first (refl, are.0.context),
      parts-shown subs (suc (part_id p)) parts laid a.1 are.1 (λ nid has.
          let above : suc (part_id p) ≤ nid = part-above (suc (part_id p)) nid parts a.1 has in
          let id : sub_id s ≡ part_id p = are.0.id in
          found nid (or-right (p.nid.bits == nid) (has_part parts nid) has) ∙ rw (ne_eqb (sub_id s) nid (λ e. absurd (omega (arith, above, id, e)))) refl),
    )

-- an attachment that may be laid out doesn't stand where a table does
part-apart : (parts : List Part) (nid : ℕ) → list_all part_is_formed parts ≡ true → is_table nid ≡ true → has_part parts nid ≡ false
part-apart [] nid formed table = refl
part-apart (p ∷ parts) nid formed table =
    let f = and_parts (part_is_formed p) (list_all part_is_formed parts) formed in
    let own : is_table (part_id p) ≡ false = not-false (is_table (part_id p)) (and_parts (ids_ascend 0 p.kept) (not (is_table (part_id p))) f.0).1 in
    rw (ne_eqb p.nid.bits nid (λ e. let clash : true ≡ false = sym table ∙ ap is_table (sym e) ∙ own in cc)) (part-apart parts nid f.1 table)

-- attachments ascend as the rows that name them
parts-ascend : (low : ℕ) (parts : List Part) (rows : List (ℕ × List Val)) → map part_id parts ≡ map (λ (r : ℕ × List Val). r.0) rows → keys_ascend (λ (r : ℕ × List Val). r.0) low rows ≡ true → keys_ascend part_id low parts ≡ true
parts-ascend low [] rows named ascend = refl
parts-ascend low (p ∷ parts) [] named ascend = absurd (let e : part_id p ∷ map part_id parts ≡ [] = named in cc)
parts-ascend low (p ∷ parts) (r ∷ rows) named ascend =
    let e : part_id p ∷ map part_id parts ≡ r.0 ∷ map (λ (r : ℕ × List Val). r.0) rows = named in
    let first : part_id p ≡ r.0 = cc in
    let others : map part_id parts ≡ map (λ (r : ℕ × List Val). r.0) rows = cc in
    let a = and_parts (nat_le low r.0) (keys_ascend (λ (r : ℕ × List Val). r.0) (suc r.0) rows) ascend in
    rw first (and_from (nat_le low r.0) (keys_ascend part_id (suc r.0) parts) a.0 (parts-ascend (suc r.0) parts rows others a.1))

pub named-ascend : (parts : List Part) (t : Option Tab) → map part_id parts ≡ row_ids t → rows_ascend t ≡ true → keys_ascend part_id 0 parts ≡ true
named-ascend parts None named ascend = parts-ascend 0 parts [] named refl
named-ascend parts (Some t) named ascend = parts-ascend 0 parts t.rows named ascend

table-length : (id : ℕ) (t : Option Tab) (subs : List Sub) → AreTable id t subs → length subs ≡ one_if_some t
table-length id None [] are = refl
table-length id None (s ∷ subs) are = absurd are
table-length id (Some t) [] are = absurd are
table-length id (Some t) (s ∷ subs) are = rw are.1 refl

parts-length : (parts : List Part) (subs : List Sub) → AreParts parts subs → length subs ≡ length parts
parts-length [] [] are = refl
parts-length [] (s ∷ subs) are = absurd are
parts-length (p ∷ parts) [] are = absurd are
parts-length (p ∷ parts) (s ∷ subs) are = omega (arith, parts-length parts subs are.1)

-- ---- what is known of a message that may be written

pub record IsFitting (m : Mes) : Type 0 where
  pub recipients : option_fits m.recipients ≡ true
  pub attachments : option_fits m.attachments ≡ true
  pub parts : list_all part_fits m.parts ≡ true
  pub few : few_subnodes (own_subnodes m) ≡ true

pub fitting : (m : Mes) → message_fits m ≡ true → IsFitting m
unfolding message_fits
fitting m fits =
    let r = and_parts (option_fits m.recipients) (option_fits m.attachments && (list_all part_fits m.parts && few_subnodes (own_subnodes m))) fits in
    let a = and_parts (option_fits m.attachments) (list_all part_fits m.parts && few_subnodes (own_subnodes m)) r.1 in
    let p = and_parts (list_all part_fits m.parts) (few_subnodes (own_subnodes m)) a.1 in
    record { recipients = r.0; attachments = a.0; parts = p.0; few = p.1 }

pub record IsFormed (m : Mes) : Type 0 where
  pub kept : ids_ascend 0 m.kept ≡ true
  pub recipients : table_ascends m.recipients ≡ true
  pub attachments : table_ascends m.attachments ≡ true
  pub parts : list_all part_is_formed m.parts ≡ true

pub forming : (m : Mes) → is_formed m ≡ true → IsFormed m
unfolding is_formed
forming m formed =
    let k = and_parts (ids_ascend 0 m.kept) (table_ascends m.recipients && (table_ascends m.attachments && list_all part_is_formed m.parts)) formed in
    let r = and_parts (table_ascends m.recipients) (table_ascends m.attachments && list_all part_is_formed m.parts) k.1 in
    let a = and_parts (table_ascends m.attachments) (list_all part_is_formed m.parts) r.1 in
    record { kept = k.0; recipients = r.0; attachments = a.0; parts = a.1 }

few-fit : (props : List Val) (rest : List Flat) (n : ℕ) → few_subnodes n ≡ true → direct rest + long_values props ≤ n → props_fit props rest ≡ true
unfolding props_fit
few-fit props rest n few le = le-leb (direct rest + long_values props) 173400 (omega (arith, leb-true n 173400 few, le))

-- ---- all of them

-- these subnodes are what a message keeps, its tables and its attachments, and those are they in order
pub record IsLaid (recipients attachments : Option Tab) (parts : List Part) (kept first second laid sorted : List Sub) : Type 0 where
  pub others : are_others parts (flattened kept) ≡ true
  pub ascend : keys_ascend sub_id 0 kept ≡ true
  pub recipients_are : AreTable 0x692 recipients first
  pub attachments_are : AreTable 0x671 attachments second
  pub parts_are : AreParts parts laid
  pub formed : list_all part_is_formed parts ≡ true
  pub rise : keys_ascend part_id 0 parts ≡ true
  pub found : (nid : ℕ) → find_key sub_id nid sorted ≡ find_key sub_id nid (((kept ++ first) ++ second) ++ laid)
  pub in_order : keys_ascend sub_id 0 sorted ≡ true

module _ (recipients attachments : Option Tab) (parts : List Part) (kept first second laid sorted : List Sub) (is : IsLaid recipients attachments parts kept first second laid sorted) where
  recipients-found : find_key sub_id 0x692 sorted ≡ find_key sub_id 0x692 first
  recipients-found =
      is.found 0x692 ∙ find-left 0x692 ((kept ++ first) ++ second) laid (part-none 0x692 parts laid is.parts_are (part-apart parts 0x692 is.formed refl))
      ∙ find-left 0x692 (kept ++ first) second (table-none 0x671 0x692 attachments second is.attachments_are (λ e. absurd (omega (arith, e))))
      ∙ find-right 0x692 kept first (kept-none parts 0x692 kept is.others refl)

  attachments-found : find_key sub_id 0x671 sorted ≡ find_key sub_id 0x671 second
  attachments-found =
      is.found 0x671 ∙ find-left 0x671 ((kept ++ first) ++ second) laid (part-none 0x671 parts laid is.parts_are (part-apart parts 0x671 is.formed refl))
      ∙ find-right 0x671 (kept ++ first) second (find-right 0x671 kept first (kept-none parts 0x671 kept is.others refl) ∙ table-none 0x692 0x671 recipients first is.recipients_are (λ e. absurd (omega (arith, e))))

  part-not-table : (nid : ℕ) → has_part parts nid ≡ true → is_table nid ≡ false
  part-not-table nid has = elim (cases_Bool (is_table nid)) [ inl t ↦ absurd (let clash : true ≡ false = sym has ∙ part-apart parts nid is.formed t in cc) | inr f ↦ f ]

  part-found : (nid : ℕ) → has_part parts nid ≡ true → find_key sub_id nid sorted ≡ find_key sub_id nid laid
  part-found nid has =
      let tables = or-none (nid == 0x692) (nid == 0x671) (part-not-table nid has) in
      let own : is_own parts nid ≡ true = rw (tables.0, tables.1) has in
      is.found nid
      ∙ find-right nid ((kept ++ first) ++ second) laid
      (find-right nid (kept ++ first) second (find-right nid kept first (kept-none parts nid kept is.others own) ∙ table-none 0x692 nid recipients first is.recipients_are (λ e. let t : (nid == 0x692) ≡ true = eq-eqb nid 0x692 e in cc))
      ∙ table-none 0x671 nid attachments second is.attachments_are (λ e. let t : (nid == 0x671) ≡ true = eq-eqb nid 0x671 e in cc))

  other-found : (nid : ℕ) → is_own parts nid ≡ false → find_key sub_id nid sorted ≡ find_key sub_id nid kept
  other-found nid other =
      let first_part = or-none (nid == 0x692) ((nid == 0x671) || has_part parts nid) other in
      let second_part = or-none (nid == 0x671) (has_part parts nid) first_part.1 in
      is.found nid ∙ find-left nid ((kept ++ first) ++ second) laid (part-none nid parts laid is.parts_are second_part.1)
      ∙ find-left nid (kept ++ first) second (table-none 0x671 nid attachments second is.attachments_are (λ e. let t : (nid == 0x671) ≡ true = eq-eqb nid 0x671 e in cc))
      ∙ find-left nid kept first (table-none 0x692 nid recipients first is.recipients_are (λ e. let t : (nid == 0x692) ≡ true = eq-eqb nid 0x692 e in cc))

  pub laid-shows : map part_id parts ≡ row_ids attachments → ShowsBelow (flattened sorted) recipients attachments parts
  laid-shows named = record {
    recipients_are = subst (λ (o : Option (List (List ℕ) × List Flat)). ShowsTable o recipients) (sym (subnode-found sorted 0x692 ∙ ap (option_map contents) recipients-found)) (table-shown 0x692 recipients first is.recipients_are);
    attachments_are = subst (λ (o : Option (List (List ℕ) × List Flat)). ShowsTable o attachments) (sym (subnode-found sorted 0x671 ∙ ap (option_map contents) attachments-found)) (table-shown 0x671 attachments second is.attachments_are);
    parts_are = subst (λ (ids : List ℕ). ShowsParts (without is_table false (flattened sorted)) ids parts) named
        (parts-shown (without is_table false (flattened sorted)) 0 parts laid is.rise is.parts_are
        (λ nid has. subnode-kept is_table false (flattened sorted) nid (part-not-table nid has) ∙ subnode-found sorted nid ∙ ap (option_map contents) (part-found nid has)));
  }

  pub laid-keeps : flattened kept ≡ without (is_own parts) false (flattened sorted)
  laid-keeps =
      ap flattened (same-found 0 kept (staying (is_own parts) sorted) is.ascend (staying-ascends (is_own parts) 0 sorted is.in_order) (λ nid le. sym (staying-found (is_own parts) nid sorted ∙ elim (cases_Bool (is_own parts nid)) [
        | inl t ↦ rw t (sym (kept-none parts nid kept is.others t))
        | inr f ↦ rw f (other-found nid f)
      ])))
      ∙ sym (without-staying (is_own parts) sorted)

-- what is laid out in order is what a message wants beside its values
pub lays : (m : Mes) (kept one two three sorted : List Sub) → IsMessage m.attachments m.parts m.kept → flattened kept ≡ m.kept → message_fits m ≡ true → is_formed m ≡ true
    → AddsTable kept 0x692 m.recipients one → AddsTable one 0x671 m.attachments two → AddsParts two m.parts three → rows_ascend m.attachments ≡ true
    → ((nid : ℕ) → find_key sub_id nid sorted ≡ find_key sub_id nid three) → keys_ascend sub_id 0 sorted ≡ true → length sorted ≤ length three → subs_size (flattened sorted) ≤ subs_size (flattened three)
    → LaysBelow m (flattened sorted)
lays m kept one two three sorted message same fits formed first second laid rows found in_order few size =
    let form = forming m formed in
    let all : three ≡ ((kept ++ first.0) ++ second.0) ++ laid.0 = laid.1 ∙ ap (λ (ss : List Sub). ss ++ laid.0) (second.1 ∙ ap (λ (ss : List Sub). ss ++ second.0) first.1) in
    let is : IsLaid m.recipients m.attachments m.parts kept first.0 second.0 laid.0 sorted = record {
      others = rw same message.others;
      ascend = sym (ids-are-keys 0 kept) ∙ ap (ids_ascend 0) same ∙ form.kept;
      recipients_are = first.2;
      attachments_are = second.2;
      parts_are = laid.2;
      formed = form.parts;
      rise = named-ascend m.parts m.attachments message.named rows;
      found = λ nid. found nid ∙ ap (find_key sub_id nid) all;
      in_order = in_order;
    } in
    let long : length three ≡ direct m.kept + (one_if_some m.recipients + (one_if_some m.attachments + length m.parts)) =
    omega (
      arith,
      ap (λ (ss : List Sub). length ss) all,
      length-append ((kept ++ first.0) ++ second.0) laid.0,
      length-append (kept ++ first.0) second.0,
      length-append kept first.0,
      direct-flattened kept,
      ap direct same,
      table-length 0x692 m.recipients first.0 first.2,
      table-length 0x671 m.attachments second.0 second.2,
      parts-length m.parts laid.0 laid.2,
    ) in
    record {
      shows = laid-shows m.recipients m.attachments m.parts kept first.0 second.0 laid.0 sorted is message.named;
      kept = sym same ∙ laid-keeps m.recipients m.attachments m.parts kept first.0 second.0 laid.0 sorted is;
      fit = few-fit m.props (flattened sorted) (own_subnodes m) (fitting m fits).few (omega (arith, direct-flattened sorted, few, long));
      ascend = ids-are-keys 0 sorted ∙ in_order;
      small = omega (
        arith,
        size,
        flattened-size three,
        ap sub_sizes all,
        sizes-append ((kept ++ first.0) ++ second.0) laid.0,
        sizes-append (kept ++ first.0) second.0,
        sizes-append kept first.0,
        flattened-size kept,
        ap subs_size same,
        kept-size m.kept,
        table-sizes 0x692 m.recipients first.0 first.2,
        table-sizes 0x671 m.attachments second.0 second.2,
        parts-sizes m.parts laid.0 laid.2,
      );
    }
