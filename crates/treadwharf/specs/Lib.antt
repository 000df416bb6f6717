-- What the panel's contracts say.
pub mod Panel
