pub mod Children
pub mod KindNumbers
pub mod Sound
pub mod NeverSeven
