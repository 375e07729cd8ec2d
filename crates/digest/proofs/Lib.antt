mod InputLaws
