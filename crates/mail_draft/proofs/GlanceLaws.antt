-- What a message's node tells, and what the tree has.
use Rattle.std.proofs.Common.{◌≡◌, ℕ, Bool, is_some, length, List, [], ◌∷◌, Option, None, Some, Result, Ok, Err, refl, sym, ap, ◌∙◌, subst}
use Rattle.std.proofs.lemmas.Option.{same_Some}
use Rattle.std.proofs.lemmas.Bool.{ne_eqb}
use Rattle.std.specs.Option.{option_and_then, unwrap_or}
use Rattle.pst_base.specs.Fields.{number_at}
use Rattle.mapi_values.specs.Messages.{Mes}
use Rattle.mapi_values.specs.Tables.{find_row}
use Rattle.mapi_values.specs.Values.{Val, in_field}
use Rattle.node_port.specs.Nodes.{content_of}
use Rattle.node_port.specs.declared.node.NodeRec.{NodeRec}
use Rattle.content_glance.specs.declared.content.Glance.{Glance}
use Rattle.content_glance.specs.declared.content.Glance.TheVariants.{Held, Absent, Below}
use Rattle.content_glance.specs.Glances.{IsTold, Tells}
use Rattle.content_glance.specs.Rows.{TellsCount, TellsRow}
use Rattle.mail_objects.specs.Forms.{Tbl}
use Rattle.mail_objects.specs.Objects.{ShowsMail, ShowsTable}
use Rattle.mail_objects.specs.declared.object.Object.{Object}
use Rattle.mail_objects.specs.declared.object.Object.TheVariants.{Context, Table, Message, Bare}
use Rattle.mail_tree.specs.Changing.{Answer, ◌>>=◌, as_message, as_table, known, nothing, now_at}
use Rattle.mail_tree.proofs.AfterTree.{now_nothing}
use Rattle.mail_tree.specs.Tree.{StandsAt, Tree, object_at}
use Rattle.mail_tree.specs.Values.{bytes_of, number_of, of_kind}
use Rattle.mail_draft.specs.declared.stop.Stop.{Stop}
use Rattle.mail_draft.specs.Answers.{Says}
use Rattle.mail_draft.specs.Glancing.{AreOfTable, IsContent, TellsHas, TellsRows, told_bytes}

-- the content of a node that stands where the tree has a message
pub content-message : (q : ℕ) (node : NodeRec) (whole : Option NodeRec) (object : Option Object) (other : Option NodeRec) (m : Mes) → Some node ≡ content_of whole → StandsAt q whole object other
    → as_message object ≡ Some m → IsContent node m
content-message q node whole None other m is stands here = cc
content-message q node whole (Some (Context c)) other m is stands here = cc
content-message q node whole (Some (Table t)) other m is stands here = cc
content-message q node whole (Some (Bare above)) other m is stands here = cc
content-message q node whole (Some (Message n)) other m is stands here =
    let same : n ≡ m = same_Some n m here in
    let e : Some node ≡ content_of (Some stands.1.0) = is ∙ ap content_of stands.1.1 in
    record {
      nid = q;
      whole = stands.1.0;
      shows = subst (λ (k : Mes). ShowsMail q stands.1.0 k) same stands.1.2;
      blocks = ap (λ (rec : NodeRec). rec.blocks) (same_Some node (record { parent = (stands.1.0).parent; blocks = (stands.1.0).blocks; subs = [] }) e);
    }

-- there is a node where the tree has a message
pub content-some : (q : ℕ) (whole : Option NodeRec) (object : Option Object) (other : Option NodeRec) (m : Mes) → None ≡ content_of whole → StandsAt q whole object other → as_message object ≡ Some m → ⊥
content-some q whole None other m is stands here = cc
content-some q whole (Some (Context c)) other m is stands here = cc
content-some q whole (Some (Table t)) other m is stands here = cc
content-some q whole (Some (Bare above)) other m is stands here = cc
content-some q whole (Some (Message n)) other m is stands here = let e : None ≡ content_of (Some stands.1.0) = is ∙ ap content_of stands.1.1 in cc

-- what is told by the data of a message's node is so of the message
pub told-content : (node : NodeRec) (m : Mes) (id : ℕ) (told : Option Glance) → Tells node.blocks id told → IsContent node m → IsTold id m.props told
told-content node m id told tells c =
    let there : Tells c.whole.blocks id told = subst (λ (blocks : List (List ℕ)). Tells blocks id told) c.blocks tells in
    there c.whole.subs m.props c.shows.message.rest c.shows.message.context

-- what is known goes into the next step, wherever it is
pub says-where : {A C D : Type 0} (view : D → C) (o : Option A) (f : A → Answer C) (result : Result D Stop) → ((a : A) → o ≡ Some a → Says view (f a) result) → Says view (known o >>= f) result
says-where view None f result h = tt
says-where view (Some a) f result h = h a refl

-- the bytes that are told are those of the value, if one of its kind can't stand in a subnode unseen
pub told-bytes : (id kind : ℕ) (props : List Val) (glance : Glance) → IsTold id props (Some glance) → (glance ≡ Below → in_field kind ≡ None → ⊥) → told_bytes kind glance ≡ bytes_of id kind props
told-bytes id kind props (Held v) told out = sym (ap (option_and_then (of_kind kind)) told)
told-bytes id kind props Absent told out = sym (ap (option_and_then (of_kind kind)) told)
told-bytes id kind props Below told out =
    let other : (told.0).kind ≡ kind → ⊥ = λ same. out refl (ap in_field (sym same) ∙ told.2) in
    sym (ap (option_and_then (of_kind kind)) told.1 ∙ rw (ne_eqb (told.0).kind kind other) refl)

number-kind : in_field 0x0003 ≡ None → ⊥
unfolding in_field
number-kind none = cc

pub number-bytes : (id : ℕ) (props : List Val) (glance : Glance) → IsTold id props (Some glance) → told_bytes 0x0003 glance ≡ bytes_of id 0x0003 props
number-bytes id props glance told = told-bytes id 0x0003 props glance told (λ below. number-kind)

pub number-told : (id : ℕ) (props : List Val) (glance : Glance) (bytes : List ℕ) → Some bytes ≡ told_bytes 0x0003 glance → IsTold id props (Some glance) → number_at 4 0 bytes ≡ number_of id props
number-told id props glance bytes is told =
    ap (λ (o : Option (List ℕ)). number_at 4 0 (unwrap_or o (0 ∷ 0 ∷ 0 ∷ 0 ∷ []))) (is ∙ number-bytes id props glance told)

-- the content of a node that stands where the tree has a table
pub content-table : (q : ℕ) (node : NodeRec) (whole : Option NodeRec) (object : Option Object) (other : Option NodeRec) (t : Tbl) → Some node ≡ content_of whole → StandsAt q whole object other
    → as_table object ≡ Some t → AreOfTable node t
content-table q node whole None other t is stands here = cc
content-table q node whole (Some (Context c)) other t is stands here = cc
content-table q node whole (Some (Message n)) other t is stands here = cc
content-table q node whole (Some (Bare above)) other t is stands here = cc
content-table q node whole (Some (Table u)) other t is stands here =
    let same : u ≡ t = same_Some u t here in
    let e : Some node ≡ content_of (Some stands.1.0) = is ∙ ap content_of stands.1.1 in
    record {
      whole = stands.1.0;
      shows = subst (λ (k : Tbl). ShowsTable stands.1.0 k) same stands.1.2;
      blocks = ap (λ (rec : NodeRec). rec.blocks) (same_Some node (record { parent = (stands.1.0).parent; blocks = (stands.1.0).blocks; subs = [] }) e);
    }

-- there is a node where the tree has a table
pub content-there : (q : ℕ) (whole : Option NodeRec) (object : Option Object) (other : Option NodeRec) (t : Tbl) → None ≡ content_of whole → StandsAt q whole object other → as_table object ≡ Some t → ⊥
content-there q whole None other t is stands here = cc
content-there q whole (Some (Context c)) other t is stands here = cc
content-there q whole (Some (Message n)) other t is stands here = cc
content-there q whole (Some (Bare above)) other t is stands here = cc
content-there q whole (Some (Table u)) other t is stands here = let e : None ≡ content_of (Some stands.1.0) = is ∙ ap content_of stands.1.1 in cc

-- what is told of a row by a table's blocks is so of the table
pub told-row : (node : NodeRec) (t : Tbl) (row : ℕ) (told : Option Bool) → TellsRow node.blocks row told → AreOfTable node t → told ≡ Some (is_some (find_row row t.table.rows))
told-row node t row told tells are =
    let there : TellsRow are.whole.blocks row told = subst (λ (blocks : List (List ℕ)). TellsRow blocks row told) are.blocks tells in
    there are.whole.subs t.table are.shows.table

-- before any change, what stands at an id is what the tree has there
pub table-there : (T : Tree) (q : ℕ) (t : Tbl) → as_table (now_at T nothing q) ≡ Some t → as_table (object_at T q) ≡ Some t
table-there T q t here = ap as_table (sym (ap (λ at. at q) (now_nothing T))) ∙ here

-- what is told of a row is the answer
pub has-said : (row : ℕ) (t : Tbl) (result : Result Bool Stop) → TellsHas row t result → Says (λ (b : Bool). b) (Ok (is_some (find_row row t.table.rows))) result
has-said row t (Ok has) told = told
has-said row t (Err stop) told = told

-- what is told of how many rows there are by a table's blocks is so of the table
pub told-rows : (node : NodeRec) (t : Tbl) (told : Option ℕ) → TellsCount node.blocks told → AreOfTable node t → told ≡ Some (length t.table.rows)
told-rows node t told tells are =
    let there : TellsCount are.whole.blocks told = subst (λ (blocks : List (List ℕ)). TellsCount blocks told) are.blocks tells in
    there are.whole.subs t.table are.shows.table

-- and it is the answer
pub rows-said : (t : Tbl) (result : Result ℕ Stop) → TellsRows t result → Says (λ (n : ℕ). n) (Ok (length t.table.rows)) result
rows-said t (Ok count) told = told
rows-said t (Err stop) told = told
