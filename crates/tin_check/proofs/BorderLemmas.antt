-- Border sides: their mates, their boxes and their order.
pub mod BorderSides
pub mod SideMeetings
pub mod SideTrees
pub mod SideOrders
