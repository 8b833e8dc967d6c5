-- The commands on folders leave all in order where they name an own search folder.
use Rattle.search_laws.specs.Laws.{MovesInOrder, RemovesInOrder, RenamesInOrder}
use Rattle.search_laws.proofs.Removing as removing
use Rattle.search_laws.proofs.Renaming as renaming
use Rattle.search_laws.proofs.Shifting as shifting

pub renames_in_order : RenamesInOrder
renames_in_order = renaming.renames_in_order

pub moves_in_order : MovesInOrder
moves_in_order = shifting.moves_in_order

pub removes_in_order : RemovesInOrder
removes_in_order = removing.removes_in_order
