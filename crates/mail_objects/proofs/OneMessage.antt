-- A node is one message at most, and none where something is wrong with it.
use Rattle.std.proofs.Common.{◌≡◌, ◌∙◌, ℕ, false, List, [], ◌∷◌, Option, None, Some, Err, refl, sym, ap, subst, inl, inr, ⊎_elim}
use Rattle.pst_base.specs.Flat.{Flat}
use Rattle.pst_base.specs.declared.stops.MemOr.{MemOr}
use Rattle.pst_base.specs.declared.stops.MemOr.TheVariants.{Memory, Refused}
use Rattle.mapi_values.specs.declared.part.Part.{Part}
use Rattle.mapi_values.specs.Messages.{Mes, is_own, part_id, row_ids}
use Rattle.mapi_values.specs.Tables.{Tab}
use Rattle.mapi_values.specs.Values.{Val}
use Rattle.node_port.specs.declared.node.NodeRec.{NodeRec}
use Rattle.property_context.proofs.UniqueLaws.{no-fault, same-rest, same-values}
use Rattle.property_context.specs.Context.{IsPropertyContext}
use Rattle.node_values.specs.Subnodes.{subnode, without}
use Rattle.property_context.specs.declared.read.PcFault.TheVariants as pcs
use Rattle.table_writer.proofs.table_context_laws.ContextLaws.{no-table, one-table}
use Rattle.table_writer.specs.table_context.declared.fault.TcFault.TheVariants as tcs
use Rattle.mail_objects.specs.Answers.{Refuses}
use Rattle.mail_objects.specs.Message.{ShowsMessage, ShowsPart, ShowsParts, ShowsTable}
use Rattle.mail_objects.specs.Reading.{FirstLacks, LacksAttachments, LacksBelow, LacksContext, LacksMessage, LacksPart, LacksTable, ReadsMessage}
use Rattle.mail_objects.specs.Subnodes.{is_table}
use Rattle.mail_objects.specs.declared.message.fault.MessageFault.{MessageFault}
use Rattle.mail_objects.specs.declared.message.fault.MessageFault.TheVariants.{Heap, Bth, Pc, Tc, Attach}

-- ---- one at most

pub same-table : (sub : Option (List (List ℕ) × List Flat)) (t u : Option Tab) → ShowsTable sub t → ShowsTable sub u → t ≡ u
same-table None None None a b = refl
same-table None None (Some u) a b = absurd b
same-table None (Some t) u a b = absurd a
same-table (Some sub) None u a b = absurd a
same-table (Some sub) (Some t) None a b = absurd b
same-table (Some sub) (Some t) (Some u) a b = ap Some (one-table sub.0 sub.1 t u a b)

abbrev part-of : ℕ → List Val → List Flat → Part
part-of id props kept = record { nid = record { bits = id }; props = props; kept = kept }

part-same : (p q : Part) → part_id p ≡ part_id q → p.props ≡ q.props → p.kept ≡ q.kept → p ≡ q
part-same p q id props kept =
    ap (λ (n : ℕ). part-of n p.props p.kept) id ∙ ap (λ (vs : List Val). part-of (part_id q) vs p.kept) props ∙ ap (λ (fs : List Flat). part-of (part_id q) q.props fs) kept

same-part : (sub : Option (List (List ℕ) × List Flat)) (id : ℕ) (p q : Part) → ShowsPart sub id p → ShowsPart sub id q → p ≡ q
same-part None id p q a b = absurd a
same-part (Some sub) id p q a b =
    part-same p q (a.0 ∙ sym b.0) (same-values sub.0 sub.1 p.props q.props p.kept q.kept a.1 b.1) (same-rest sub.0 sub.1 p.props q.props p.kept q.kept a.1 b.1)

same-parts : (subs : List Flat) (ids : List ℕ) (ps qs : List Part) → ShowsParts subs ids ps → ShowsParts subs ids qs → ps ≡ qs
same-parts subs [] [] [] a b = refl
same-parts subs [] [] (q ∷ qs) a b = absurd b
same-parts subs [] (p ∷ ps) qs a b = absurd a
same-parts subs (id ∷ ids) [] qs a b = absurd a
same-parts subs (id ∷ ids) (p ∷ ps) [] a b = absurd b
same-parts subs (id ∷ ids) (p ∷ ps) (q ∷ qs) a b =
    ap (λ (x : Part). x ∷ ps) (same-part (subnode subs id) id p q a.0 b.0) ∙ ap (λ (xs : List Part). q ∷ xs) (same-parts subs ids ps qs a.1 b.1)

abbrev mes-of : ℕ → ℕ → List Val → Option Tab → Option Tab → List Part → List Flat → Mes
mes-of nid folder props recipients attachments parts kept =
    record { nid = nid; folder = folder; props = props; recipients = recipients; attachments = attachments; parts = parts; kept = kept }

mes-same : (m n : Mes) → m.nid ≡ n.nid → m.folder ≡ n.folder → m.props ≡ n.props → m.recipients ≡ n.recipients → m.attachments ≡ n.attachments → m.parts ≡ n.parts → m.kept ≡ n.kept → m ≡ n
mes-same m n nid folder props recipients attachments parts kept =
    ap (λ (x : ℕ). mes-of x m.folder m.props m.recipients m.attachments m.parts m.kept) nid
    ∙ ap (λ (x : ℕ). mes-of n.nid x m.props m.recipients m.attachments m.parts m.kept) folder
    ∙ ap (λ (x : List Val). mes-of n.nid n.folder x m.recipients m.attachments m.parts m.kept) props
    ∙ ap (λ (x : Option Tab). mes-of n.nid n.folder n.props x m.attachments m.parts m.kept) recipients
    ∙ ap (λ (x : Option Tab). mes-of n.nid n.folder n.props n.recipients x m.parts m.kept) attachments
    ∙ ap (λ (x : List Part). mes-of n.nid n.folder n.props n.recipients n.attachments x m.kept) parts
    ∙ ap (λ (x : List Flat). mes-of n.nid n.folder n.props n.recipients n.attachments n.parts x) kept

pub same-message : (nid : ℕ) (node : NodeRec) (m n : Mes) → ShowsMessage nid node m → ShowsMessage nid node n → m ≡ n
same-message nid node m n a b =
    let rest : a.rest ≡ b.rest = same-rest node.blocks node.subs m.props n.props a.rest b.rest a.context b.context in
    let recipients : m.recipients ≡ n.recipients =
    same-table (subnode b.rest 0x692) m.recipients n.recipients (subst (λ (fs : List Flat). ShowsTable (subnode fs 0x692) m.recipients) rest a.recipients) b.recipients in
    let attachments : m.attachments ≡ n.attachments =
    same-table (subnode b.rest 0x671) m.attachments n.attachments (subst (λ (fs : List Flat). ShowsTable (subnode fs 0x671) m.attachments) rest a.attachments) b.attachments in
    let parts : m.parts ≡ n.parts =
    same-parts (without is_table false b.rest) (row_ids n.attachments) m.parts n.parts
    (subst (λ (t : Option Tab). ShowsParts (without is_table false b.rest) (row_ids t) m.parts) attachments
    (subst (λ (fs : List Flat). ShowsParts (without is_table false fs) (row_ids m.attachments) m.parts) rest a.parts)) b.parts in
    mes-same m n (a.id ∙ sym b.id) (a.folder ∙ sym b.folder) (same-values node.blocks node.subs m.props n.props a.rest b.rest a.context b.context) recipients attachments parts
    (a.kept ∙ ap (λ (ps : List Part). without (is_own ps) false a.rest) parts ∙ ap (λ (fs : List Flat). without (is_own n.parts) false fs) rest ∙ sym b.kept)

-- ---- none where something is wrong

pub no-context : (blocks : List (List ℕ)) (subs : List Flat) (values : List Val) (rest : List Flat) (fault : MessageFault) → LacksContext blocks subs fault → IsPropertyContext blocks subs values rest → ⊥
no-context blocks subs values rest Heap lacks shows = no-fault blocks subs values rest pcs.Heap lacks shows
no-context blocks subs values rest Bth lacks shows = no-fault blocks subs values rest pcs.Bth lacks shows
no-context blocks subs values rest Pc lacks shows = no-fault blocks subs values rest pcs.Pc lacks shows
no-context blocks subs values rest Tc lacks shows = lacks
no-context blocks subs values rest Attach lacks shows = lacks

pub no-table-at : (sub : Option (List (List ℕ) × List Flat)) (t : Option Tab) (fault : MessageFault) → LacksTable sub fault → ShowsTable sub t → ⊥
no-table-at None t fault lacks shows = lacks
no-table-at (Some sub) None fault lacks shows = shows
no-table-at (Some sub) (Some t) Heap lacks shows = no-table sub.0 sub.1 t tcs.Heap lacks shows
no-table-at (Some sub) (Some t) Bth lacks shows = no-table sub.0 sub.1 t tcs.Bth lacks shows
no-table-at (Some sub) (Some t) Tc lacks shows = no-table sub.0 sub.1 t tcs.Tc lacks shows
no-table-at (Some sub) (Some t) Pc lacks shows = lacks
no-table-at (Some sub) (Some t) Attach lacks shows = lacks

pub no-part : (sub : Option (List (List ℕ) × List Flat)) (id : ℕ) (part : Part) (fault : MessageFault) → LacksPart sub fault → ShowsPart sub id part → ⊥
no-part None id part fault lacks shows = shows
no-part (Some sub) id part fault lacks shows = no-context sub.0 sub.1 part.props part.kept fault lacks shows.1

no-parts : (subs : List Flat) (ids : List ℕ) (parts : List Part) (fault : MessageFault) → FirstLacks subs ids fault → ShowsParts subs ids parts → ⊥
no-parts subs [] parts fault lacks shows = lacks
no-parts subs (id ∷ ids) [] fault lacks shows = shows
no-parts subs (id ∷ ids) (p ∷ parts) fault (inl here) shows = no-part (subnode subs id) id p fault here shows.0
no-parts subs (id ∷ ids) (p ∷ parts) fault (inr behind) shows = no-parts subs ids parts fault behind.2 shows.1

no-attachments : (rest : List Flat) (fault : MessageFault) (attachments : Option Tab) (parts : List Part) → LacksAttachments rest fault → ShowsTable (subnode rest 0x671) attachments
    → ShowsParts (without is_table false rest) (row_ids attachments) parts → ⊥
no-attachments rest fault attachments parts (inl table) a p = no-table-at (subnode rest 0x671) attachments fault table a
no-attachments rest fault attachments parts (inr part) a p =
    let same : part.0 ≡ attachments = same-table (subnode rest 0x671) part.0 attachments part.1 a in
    no-parts (without is_table false rest) (row_ids attachments) parts fault (subst (λ (t : Option Tab). FirstLacks (without is_table false rest) (row_ids t) fault) same part.2) p

no-below : (rest : List Flat) (fault : MessageFault) (recipients attachments : Option Tab) (parts : List Part) → LacksBelow rest fault → ShowsTable (subnode rest 0x692) recipients → ShowsTable (subnode rest 0x671) attachments
    → ShowsParts (without is_table false rest) (row_ids attachments) parts → ⊥
no-below rest fault recipients attachments parts (inl table) r a p = no-table-at (subnode rest 0x692) recipients fault table r
no-below rest fault recipients attachments parts (inr behind) r a p = no-attachments rest fault attachments parts behind.2 a p

pub no-message : (nid : ℕ) (node : NodeRec) (m : Mes) (fault : MessageFault) → LacksMessage node fault → ShowsMessage nid node m → ⊥
no-message nid node m fault lacks shows = ⊎_elim
    (λ context. no-context node.blocks node.subs m.props shows.rest fault context shows.context)
    (λ others.
    let rest : shows.rest ≡ others.1 = same-rest node.blocks node.subs m.props others.0 shows.rest others.1 shows.context others.2 in
    no-below shows.rest fault m.recipients m.attachments m.parts (subst (λ (fs : List Flat). LacksBelow fs fault) (sym rest) others.3) shows.recipients shows.attachments shows.parts)
    lacks

-- ---- what a reader gives up for

pub context-stops : (nid : ℕ) (node : NodeRec) (e : MemOr MessageFault) → Refuses (LacksContext node.blocks node.subs) e → ReadsMessage nid node (Err e)
context-stops nid node Memory lacks = tt
context-stops nid node (Refused fault) lacks = (inl lacks, λ m. no-message nid node m fault (inl lacks))

pub below-stops : (nid : ℕ) (node : NodeRec) (values : List Val) (rest : List Flat) (e : MemOr MessageFault) → IsPropertyContext node.blocks node.subs values rest
    → Refuses (LacksBelow rest) e → ReadsMessage nid node (Err e)
below-stops nid node values rest Memory context lacks = tt
below-stops nid node values rest (Refused fault) context lacks =
    let why : LacksMessage node fault = inr (values, rest, context, lacks) in
    (why, λ m. no-message nid node m fault why)

-- what a reader of the subnodes gives up for
