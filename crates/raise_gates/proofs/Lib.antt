pub mod RaiseLemmas
