-- Messages of which an attachment is put or goes: they can be laid out still, and name their attachments.
use Rattle.std.proofs.Common.{◌≡◌, ◌∙◌, ◌==◌, ℕ, Bool, true, List, [], ◌∷◌, Option, None, Some, get_or, refl, sym, ap, subst, inl, inr}
use Rattle.std.specs.List.{list_all, remove}
use Rattle.std.specs.Option.{option_map}
use Rattle.std.proofs.lemmas.Bool.{and_parts, cases_Bool}
use Rattle.mapi_values.specs.declared.part.Part.{Part}
use Rattle.mapi_values.specs.Keyed.{IsHere, drop_key, find_key, keys_ascend, put_key}
use Rattle.mapi_values.specs.Messages.{Mes, part_id}
use Rattle.mapi_values.specs.Tables.{Tab, drop_row}
use Rattle.mapi_values.specs.Values.{Val}
use Rattle.mapi_values.proofs.KeyedLaws.{drop-all, drop-here, find-here, put-all}
use Rattle.mail_objects.specs.Message.{is_formed, part_is_formed}
use Rattle.mail_tree.specs.Changing.{shown_row}
use Rattle.mail_tree.specs.Parts.{with_part, without_attachment}
use Rattle.mail_parts.proofs.PartTables.{Formed, formed_from, formed_parts, rows_ascend}

-- a message in which an attachment is put
pub with_formed : (M : Mes) (part : Part) → is_formed M ≡ true → part_is_formed part ≡ true → is_formed (with_part part M) ≡ true
with_formed M part formed fit =
    let f = formed_parts M formed in
    let changed : Formed (with_part part M) = record {
      kept = f.kept;
      recipients = f.recipients;
      attachments = rows_ascend M.attachments (λ (u : Tab). shown_row (part_id part) part.props u) f.attachments;
      parts = put-all part_id part_is_formed part M.parts fit f.parts;
    } in
    formed_from (with_part part M) changed

-- and one from which an attachment goes
pub without_formed : (M : Mes) (k : ℕ) → is_formed M ≡ true → is_formed (without_attachment k M) ≡ true
without_formed M k formed =
    let f = formed_parts M formed in
    let changed : Formed (without_attachment k M) = record {
      kept = f.kept;
      recipients = f.recipients;
      attachments = rows_ascend M.attachments (λ (u : Tab). drop_row k u.rows) f.attachments;
      parts = drop-all part_id part_is_formed k M.parts f.parts;
    } in
    formed_from (without_attachment k M) changed

-- a table that has other rows, and is as it was otherwise
other_rows : (t u : Tab) (rows : List (ℕ × List Val)) → u.rows ≡ rows → u.columns ≡ t.columns → u.ends ≡ t.ends → u.kept ≡ t.kept → u ≡ record t { rows = rows }
other_rows t u rows a b c d = rw (sym a, sym b, sym c, sym d) refl

pub table_changed : (old new : Option Tab) (rows : Tab → List (ℕ × List Val)) (t u : Tab) → old ≡ Some t → new ≡ Some u → u.rows ≡ rows t → u.columns ≡ t.columns → u.ends ≡ t.ends → u.kept ≡ t.kept
    → new ≡ option_map (λ (v : Tab). record v { rows = rows v }) old
table_changed old new rows t u was is a b c d = is ∙ ap (λ (v : Tab). Some v) (other_rows t u (rows t) a b c d) ∙ sym (ap (λ (o : Option Tab). option_map (λ (v : Tab). record v { rows = rows v }) o) was)

pub table_missing : (old new : Option Tab) (rows : Tab → List (ℕ × List Val)) → old ≡ None → new ≡ old → new ≡ option_map (λ (v : Tab). record v { rows = rows v }) old
table_missing old new rows was is = is ∙ was ∙ sym (ap (λ (o : Option Tab). option_map (λ (v : Tab). record v { rows = rows v }) o) was)

-- a message with another table and other attachments is the one in which an attachment is put
pub put_message : (V M : Mes) (t : Option Tab) (parts : List Part) (part : Part) → V ≡ M → t ≡ option_map (λ (u : Tab). record u { rows = shown_row (part_id part) part.props u }) V.attachments → parts ≡ put_key part_id part V.parts
    → record V { attachments = t; parts = parts } ≡ with_part part M
put_message V M t parts part is table all =
    ap (λ (u : Option Tab). record V { attachments = u; parts = parts }) table ∙ ap (λ (ps : List Part). record (with_part part V) { parts = ps }) all ∙ ap (λ (m : Mes). with_part part m) is

-- or from which an attachment goes
pub drop_message : (V M : Mes) (t : Option Tab) (parts : List Part) (k : ℕ) → V ≡ M → t ≡ option_map (λ (u : Tab). record u { rows = drop_row k u.rows }) V.attachments → parts ≡ drop_key part_id k V.parts
    → record V { attachments = t; parts = parts } ≡ without_attachment k M
drop_message V M t parts k is table all =
    ap (λ (u : Option Tab). record V { attachments = u; parts = parts }) table ∙ ap (λ (ps : List Part). record (without_attachment k V) { parts = ps }) all ∙ ap (λ (m : Mes). without_attachment k m) is

-- the attachments that are left where one goes from its place
pub parts_left : (all parts left : List Part) (k i : ℕ) → parts ≡ all → left ≡ remove parts i → keys_ascend part_id 0 all ≡ true → IsHere part_id k all i → left ≡ drop_key part_id k parts
parts_left all parts left k i same is ascend here =
    is ∙ sym (drop-here part_id 0 k parts i (subst (λ (ps : List Part). keys_ascend part_id 0 ps ≡ true) (sym same) ascend) (subst (λ (ps : List Part). IsHere part_id k ps i) (sym same) here))

-- the attachment at its place is the one that is found
pub part_there : (all parts : List Part) (k i : ℕ) (part : Part) → parts ≡ all → part ≡ get_or parts i part → keys_ascend part_id 0 all ≡ true → IsHere part_id k all i → find_key part_id k all ≡ Some part
part_there all parts k i part same is ascend here =
    find-here part_id 0 k all i part ascend here ∙ sym (ap (λ (p : Part). Some p) (is ∙ ap (λ (ps : List Part). get_or ps i part) same))

-- what holds of all holds of one that is found
pub all_found : {X : Type 0} (key : X → ℕ) (test : X → Bool) (k : ℕ) (xs : List X) (x : X) → list_all test xs ≡ true → find_key key k xs ≡ Some x → test x ≡ true
all_found key test k [] x all e = cc
all_found key test k (y ∷ ys) x all e =
    let t = and_parts (test y) (list_all test ys) all in
    elim (cases_Bool (key y == k)) [
      | inl same ↦ let here = rw same at e in let is : y ≡ x = cc in rw (sym is) t.0
      | inr other ↦ all_found key test k ys x t.1 (rw other at e)
    ]
