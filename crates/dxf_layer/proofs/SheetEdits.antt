-- The edits of a drawing's sheet, and their order.
pub mod EditMoves
pub mod SheetOrder
pub mod EachEdit
pub mod ReadSheets
