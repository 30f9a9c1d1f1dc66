-- Laws of a line of code on its way.
pub mod GoingLaws
pub mod PutLaws
pub mod MarkerLaws
pub mod CommentLaws
pub mod StepLaws
