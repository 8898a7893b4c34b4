mod FewWords
mod LeftWords
