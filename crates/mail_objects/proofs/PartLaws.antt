-- Tables and attachments in subnodes.
use Rattle.std.proofs.Common.{◌≡◌, ◌∙◌, ℕ, ◌+◌, ◌<◌, ◌≤◌, List, [], ◌∷◌, ◌++◌, length, map, get_or, drop, Option, None, Some, refl, sym, ap, subst, inl}
use Rattle.std.proofs.lemmas.List.{append-nil, drop_all, drop_more}
use Rattle.pst_base.specs.Flat.{Flat}
use Rattle.mapi_values.specs.declared.part.Part.{Part}
use Rattle.mapi_values.specs.Messages.{part_id}
use Rattle.mapi_values.specs.Values.{Val}
use Rattle.table_writer.specs.table_context.Context as tc
use Rattle.table_writer.specs.table_context.declared.fault.TcFault.{TcFault}
use Rattle.table_writer.specs.table_context.declared.fault.TcFault.TheVariants.{Heap, Bth, Tc}
use Rattle.pst_base.specs.declared.stops.MemOr.{MemOr}
use Rattle.pst_base.specs.declared.stops.MemOr.TheVariants.{Memory, Refused}
use Rattle.mail_objects.specs.Answers.{Refuses, table_fault}
use Rattle.mail_objects.specs.Message.{ShowsPart, ShowsParts}
use Rattle.mail_objects.specs.Reading.{FirstLacks, LacksPart, LacksTable}
use Rattle.mail_objects.specs.declared.message.fault.MessageFault.{MessageFault}
use Rattle.node_values.specs.Subnodes.{subnode}

pub lacks-table : (sub : List (List ℕ) × List Flat) (fault : TcFault) → tc.Lacks sub.0 sub.1 fault → LacksTable (Some sub) (table_fault fault)
lacks-table sub Heap lacks = lacks
lacks-table sub Bth lacks = lacks
lacks-table sub Tc lacks = lacks

-- the ids of rows
abbrev pub ids_of : List (ℕ × List Val) → List ℕ
ids_of rows = map (λ (r : ℕ × List Val). r.0) rows

-- with attachments of the other rows, those so far are all
abbrev pub ShowsRest : List Flat → List (ℕ × List Val) → List (ℕ × List Val) → List Part → Type 0
ShowsRest subs rows others parts = (more : List Part) → ShowsParts subs (ids_of others) more → ShowsParts subs (ids_of rows) (parts ++ more)

-- all of them
pub parts-all : (subs : List Flat) (rows : List (ℕ × List Val)) (i : ℕ) (parts : List Part) → length rows ≤ i → ShowsRest subs rows (drop i rows) parts → ShowsParts subs (ids_of rows) parts
parts-all subs rows i parts le so_far =
    subst (λ (ps : List Part). ShowsParts subs (ids_of rows) ps) (append-nil parts)
    (so_far [] (subst (λ (rs : List (ℕ × List Val)). ShowsParts subs (ids_of rs) []) (sym (drop_all i rows le)) tt))

-- where the attachments of the other rows have a fault, it is that of all
abbrev pub StopsRest : List Flat → List (ℕ × List Val) → List (ℕ × List Val) → Type 0
StopsRest subs rows others = (fault : MessageFault) → FirstLacks subs (ids_of others) fault → FirstLacks subs (ids_of rows) fault

-- the first that isn't
pub stops-here : (subs : List Flat) (rows : List (ℕ × List Val)) (i : ℕ) (row : ℕ × List Val) (e : MemOr MessageFault) → i < length rows → row ≡ get_or rows i row
    → Refuses (LacksPart (subnode subs row.0)) e → StopsRest subs rows (drop i rows) → Refuses (FirstLacks subs (ids_of rows)) e
stops-here subs rows i row Memory lt is lacks so_far = tt
stops-here subs rows i row (Refused fault) lt is lacks so_far =
    let front : drop i rows ≡ row ∷ drop (i + 1) rows = drop_more rows i row lt ∙ ap (λ (r : ℕ × List Val). r ∷ drop (i + 1) rows) (sym is) in
    so_far fault (subst (λ (rs : List (ℕ × List Val)). FirstLacks subs (ids_of rs) fault) (sym front) (inl lacks))

part-named : (sub : Option (List (List ℕ) × List Flat)) (id : ℕ) (part : Part) → ShowsPart sub id part → part_id part ≡ id
part-named None id part shows = absurd shows
part-named (Some sub) id part shows = shows.0

-- those that are shown have the ids of the rows
pub parts-named : (subs : List Flat) (ids : List ℕ) (parts : List Part) → ShowsParts subs ids parts → map part_id parts ≡ ids
parts-named subs [] [] shows = refl
parts-named subs [] (p ∷ parts) shows = absurd shows
parts-named subs (id ∷ ids) [] shows = absurd shows
parts-named subs (id ∷ ids) (p ∷ parts) shows =
    ap (λ (n : ℕ). n ∷ map part_id parts) (part-named (subnode subs id) id p shows.0) ∙ ap (λ (ns : List ℕ). id ∷ ns) (parts-named subs ids parts shows.1)
