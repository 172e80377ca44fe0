mod WorkedInputs
pub mod MeaningLemmas
pub mod ItemLemmas
pub mod TokenLemmas
pub mod FieldLemmas
pub mod SpotRows
pub mod CubeRows
pub mod Taking
pub mod RowsSoFar
pub mod Layouts
pub mod Binds
pub mod Fans
pub mod Passing
pub mod Coming
pub mod Beginnings
pub mod Walking
pub mod Opening
pub mod VertexCounts
