-- What the code says of an input is what has happened.
pub mod WhatHappened
