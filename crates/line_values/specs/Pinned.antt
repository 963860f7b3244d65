-- Readers that `OneText` pins to the texts: they need not be believed. Definitions only.
pub mod Words
pub mod Numbers
pub mod Days
